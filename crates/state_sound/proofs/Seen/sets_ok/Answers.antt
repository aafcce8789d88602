use native.Mathlib.Omega.{arith}
use Rattle.std.proofs.lemmas.Grind.{common_steps}
use Rattle.table.proofs.Within.{within}
use Rattle.state.specs.Sound.{sets_ok}
use Rattle.state_sound.proofs.Seen.sets_ok.Goals as goal

pub below-requires : goal.below-requires
below-requires c = (within _ c.args.self.now.b.within).few

pub below-requires-then-below : goal.below-requires-then-below
below-requires-then-below c = (within _ c.args.self.now.b.within).few

pub below-requires-then-below-2 : goal.below-requires-then-below-2
below-requires-then-below-2 c = (within _ c.args.self.now.b.within).few

pub returns-then-below-2 : goal.returns-then-below-2
unfolding sets_ok
returns-then-below-2 c = grind (arith, common_steps)

pub returns-else-below-2 : goal.returns-else-below-2
unfolding sets_ok
returns-else-below-2 c = grind (arith, common_steps)
