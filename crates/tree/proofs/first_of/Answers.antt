-- `tree::first_of` meets its contract. Assumes nothing.
use Prim.Native.Nat.{ℕ, ◌-◌, ◌%◌}
use mathlib.Core.Path.{ap}
use native.Mathlib.Omega.{arith}
use Rattle.tree.specs.Levels.{start}
use Rattle.tree.proofs.first_of.Goals as goal

pub returns : goal.returns
unfolding start
returns c = (ap (λ (w : ℕ). c.args.i - c.args.i % w) c.width.ensures.0, omega arith)
