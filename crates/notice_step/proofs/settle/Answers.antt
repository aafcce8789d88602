use native.Mathlib.Omega.{arith}
use Rattle.std.proofs.lemmas.Grind.{common_steps}
use Rattle.notice.specs.State.{notice_settled}
use Rattle.notice_step.proofs.settle.Goals as goal

pub returns : goal.returns
unfolding notice_settled
returns c = grind (arith, common_steps)
