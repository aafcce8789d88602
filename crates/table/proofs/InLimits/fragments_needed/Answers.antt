use mathlib.Core.Path.{refl}
use native.Mathlib.Omega.{arith}
use Rattle.table.proofs.Within.{within, k_pos, k_few}
use Rattle.table.proofs.InLimits.fragments_needed.Goals as goal

pub overflow_mul-result : goal.overflow_mul-result
overflow_mul-result c = omega (arith, within _ c.args.self.within)

pub overflow_sub-result : goal.overflow_sub-result
overflow_sub-result c = omega (arith, within _ c.args.self.within)

pub returns : goal.returns
returns c =
    let w = within _ c.args.self.within in (refl, omega (arith, k_pos _ w), omega arith, omega (arith, k_few _ w))
