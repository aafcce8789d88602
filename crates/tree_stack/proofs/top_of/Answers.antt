-- `tree_stack::top_of` meets its contract.
-- Assumes nothing.
use mathlib.Core.Path.{◌≡◌, sym, ap}
use Prim.Native.Nat.{ℕ, ◌/◌, ◌*◌, ◌^◌}
use native.Mathlib.Omega.{arith}
use native.Mathlib.Nat as N
use lib.Count.{ones, ones-le}
use Rattle.tree_stack.specs.Stack.{top}
use Rattle.tree_stack.proofs.top_of.Goals as goal

pub returns : goal.returns
unfolding top
returns c =
    let e : c.args.i / 2 ^ 0 ≡ c.args.i = N.div-one c.args.i in (ap (λ (j : ℕ). 32 * ones j) (sym e), omega (arith, ones-le 6 c.args.i (omega arith)))
