use native.Mathlib.Omega.{arith}
use Rattle.std.proofs.lemmas.Grind.{common_steps}
use Rattle.octets.specs.Bytes.{pick}
use Rattle.notice_sound.proofs.length_ok.Goals as goal

pub returns-then-heard : goal.returns-then-heard
unfolding pick
returns-then-heard c = grind (arith, common_steps)

pub returns-else-heard : goal.returns-else-heard
unfolding pick
returns-else-heard c = grind (arith, common_steps)
