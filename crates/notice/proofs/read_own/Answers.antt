use Rattle.notice.specs.State.{notice_own}
use Rattle.notice.proofs.read_own.Goals as goal

pub returns : goal.returns
unfolding notice_own
returns c = c.from.ensures
