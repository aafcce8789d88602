use Rattle.octets.specs.Bytes.{part}
use Rattle.board.specs.Stepped.{enough_usable}
use Rattle.board_mark.proofs.is_enough.Goals as goal

pub returns : goal.returns
unfolding enough_usable part
returns c =
    let u = c.echoes.ensures in
    let k = rw (u.0, u.1, u.2, u.3) at c.count.ensures in
    rw (← k, ← c.fragments_needed.ensures.0)
