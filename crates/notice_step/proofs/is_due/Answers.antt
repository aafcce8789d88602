use Rattle.octets.proofs.Picks.{picks}
use Rattle.notice.specs.State.{notice_due}
use Rattle.notice_step.proofs.is_due.Goals as goal

pub returns-then-most-echoes : goal.returns-then-most-echoes
unfolding notice_due
returns-then-most-echoes c = rw (← c.echoes.ensures, ← c.most.ensures.0) (search picks)

pub returns-else-most-echoes : goal.returns-else-most-echoes
unfolding notice_due
returns-else-most-echoes c = rw (← c.echoes.ensures, ← c.votes.ensures, ← c.most.ensures.0, ← c.some.ensures.0) (search picks)
