use mathlib.Core.Path.{refl}
use native.Mathlib.Omega.{arith}
use Rattle.table.proofs.Within.{within}
use Rattle.table.proofs.InLimits.most.Goals as goal

pub overflow_sub-result : goal.overflow_sub-result
overflow_sub-result c = omega (arith, within _ c.args.self.within)

pub returns : goal.returns
returns c = (refl, omega (arith, within _ c.args.self.within))
