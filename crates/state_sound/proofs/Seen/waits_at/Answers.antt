use Rattle.state.specs.Sound.{waits_at}
use Rattle.state_sound.proofs.Tests.{two_first}
use Rattle.state_sound.proofs.Seen.waits_at.Goals as goal

pub returns-then-backs : goal.returns-then-backs
unfolding waits_at
returns-then-backs c =
    let q = c.votes-votes.ensures in
    let e = rw (q.0, q.1, q.2, q.3, c.most.ensures.0) at c.backs.ensures in
    let u = c.echoes.ensures in
    let v = rw (q.0, q.1) at c.value.ensures in
    let l = rw (u.0, u.1, u.2, u.3, v) at c.count.ensures in
    rw (two_first, ← e, c.if-backs.true, ← l, ← c.fragments_needed.ensures.0)

pub returns-else-backs : goal.returns-else-backs
unfolding waits_at
returns-else-backs c =
    let q = c.votes-votes.ensures in
    let e = rw (q.0, q.1, q.2, q.3, c.most.ensures.0) at c.backs.ensures in
    rw (two_first, ← e, c.if-backs.false)
