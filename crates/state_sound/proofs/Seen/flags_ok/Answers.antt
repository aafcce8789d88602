use native.Mathlib.Omega.{arith}
use Rattle.std.proofs.lemmas.Grind.{common_steps}
use Rattle.state.specs.Sound.{flags_ok}
use Rattle.state_sound.proofs.Seen.flags_ok.Goals as goal

pub returns-then-not-self-2 : goal.returns-then-not-self-2
unfolding flags_ok
returns-then-not-self-2 c = grind (arith, common_steps)

pub returns-else-not-self-2 : goal.returns-else-not-self-2
unfolding flags_ok
returns-else-not-self-2 c = grind (arith, common_steps)

pub returns-else-self : goal.returns-else-self
unfolding flags_ok
returns-else-self c = grind (arith, common_steps)
