use native.Mathlib.Omega.{arith}
use Rattle.std.proofs.lemmas.Grind.{common_steps}
use Rattle.octets.specs.Bytes.{pick}
use Rattle.state.specs.Sound.{quiet}
use Rattle.state_sound.proofs.Seen.is_quiet.Goals as goal

pub returns-then-self-2 : goal.returns-then-self-2
unfolding quiet pick
returns-then-self-2 c = grind (arith, common_steps)

pub returns-else-self-2 : goal.returns-else-self-2
unfolding quiet pick
returns-else-self-2 c = grind (arith, common_steps)

pub returns-then-self-3 : goal.returns-then-self-3
unfolding quiet pick
returns-then-self-3 c = grind (arith, common_steps)

pub returns-then-not-reached : goal.returns-then-not-reached
unfolding quiet pick
returns-then-not-reached c = grind (arith, common_steps)

pub returns-else-not-reached : goal.returns-else-not-reached
unfolding quiet pick
returns-else-not-reached c = grind (arith, common_steps)
