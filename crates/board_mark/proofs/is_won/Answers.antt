use Rattle.octets.specs.Bytes.{part}
use Rattle.board.specs.Stepped.{won}
use Rattle.board_mark.proofs.is_won.Goals as goal

pub returns : goal.returns
unfolding won part
returns c =
    let u = c.votes.ensures in
    let k = rw (u.0, u.1, u.2, u.3) at c.count.ensures in
    rw (← k, ← c.most.ensures.0)
