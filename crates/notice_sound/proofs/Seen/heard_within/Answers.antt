use native.Mathlib.Omega.{arith}
use Rattle.std.proofs.lemmas.Grind.{common_steps}
use Rattle.table.proofs.Within.{within}
use Rattle.notice.specs.Sound.{heard_within}
use Rattle.notice_sound.proofs.Seen.heard_within.Goals as goal

pub below-requires : goal.below-requires
below-requires c = (within _ c.args.self.now.b.within).few

pub below-requires-then-below : goal.below-requires-then-below
below-requires-then-below c = (within _ c.args.self.now.b.within).few

pub returns-then-below : goal.returns-then-below
unfolding heard_within
returns-then-below c = grind (arith, common_steps)

pub returns-else-below : goal.returns-else-below
unfolding heard_within
returns-else-below c = grind (arith, common_steps)
