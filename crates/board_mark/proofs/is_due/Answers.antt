use Rattle.octets.specs.Bytes.{part}
use Rattle.octets.proofs.Picks.{picks}
use Rattle.board.specs.Stepped.{vote_due}
use Rattle.board_mark.proofs.is_due.Goals as goal

pub returns-then-most-count : goal.returns-then-most-count
unfolding vote_due part
returns-then-most-count c =
    let u = c.echoes.ensures in
    let k = rw (u.0, u.1, u.2, u.3) at c.count.ensures in
    rw (← k, ← c.most.ensures.0) (search picks)

pub returns-else-most-count : goal.returns-else-most-count
unfolding vote_due part
returns-else-most-count c =
    let u = c.echoes.ensures in
    let k = rw (u.0, u.1, u.2, u.3) at c.count.ensures in
    let v = c.votes.ensures in
    let l = rw (v.0, v.1, v.2, v.3) at c.count-else-most-count.ensures in
    rw (← k, ← l, ← c.most.ensures.0, ← c.some.ensures.0) (search picks)
