use Rattle.notice.specs.State.{notice_won}
use Rattle.notice_step.proofs.is_won.Goals as goal

pub returns : goal.returns
unfolding notice_won
returns c = rw (← c.votes.ensures, ← c.most.ensures.0)
