use mathlib.Core.Path.{refl}
use native.Mathlib.Omega.{arith}
use Rattle.table.proofs.Within.{within}
use Rattle.table.proofs.InLimits.some.Goals as goal

pub overflow_add-result : goal.overflow_add-result
overflow_add-result c = omega (arith, within _ c.args.self.within)

pub returns : goal.returns
returns c = (refl, omega (arith, within _ c.args.self.within))
