use native.Mathlib.Omega.{arith}
use Rattle.std.proofs.lemmas.Grind.{common_steps}
use Rattle.state.specs.Sound.{sound}
use Rattle.state_sound.proofs.is_sound.Goals as goal

pub returns-in_default : goal.returns-in_default
unfolding sound
returns-in_default c = grind (arith, common_steps)

pub returns-then-boards_ok : goal.returns-then-boards_ok
unfolding sound
returns-then-boards_ok c = grind (arith, common_steps)

pub returns-else-boards_ok : goal.returns-else-boards_ok
unfolding sound
returns-else-boards_ok c = grind (arith, common_steps)
