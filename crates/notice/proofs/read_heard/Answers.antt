use Rattle.notice.specs.State.{heard_in}
use Rattle.notice.proofs.read_heard.Goals as goal

pub returns : goal.returns
unfolding heard_in
returns c = cc
