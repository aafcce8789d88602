use Rattle.table.proofs.Within.{ceil_le}
use mathlib.Core.Path.{refl}
use Prim.Native.Nat.{◌+◌, ◌-◌, ◌*◌}
use Rattle.table.specs.Table.{s_max}
use Rattle.table.proofs.Within.{within}
use native.Mathlib.Omega.{arith}
use Rattle.table.proofs.InLimits.fragment_most.Goals as goal

pub overflow_add-result : goal.overflow_add-result
overflow_add-result c = omega (arith, within _ c.args.self.within)

pub overflow_add-result-2 : goal.overflow_add-result-2
overflow_add-result-2 c = omega (arith, within _ c.args.self.within)

pub returns : goal.returns
unfolding s_max
returns c = (
  rw c.fragments_needed-k.ensures.0 refl,
  rw c.fragments_needed-k.ensures.0 (omega (arith, within _ c.args.self.within, ceil_le (c.args.self.table.longest + 4) (c.args.self.table.n - 2 * c.args.self.table.t) (omega arith))),
)
