-- `code_through::product_at` meets its contract. The loop's invariant: v is the product over the points from j on.
-- Assumes nothing.
use mathlib.Core.Path.{◌≡◌}
use Prim.Native.Nat.{◌≤◌}
use lib.ListN.{length, drop}
use Rattle.code_through.specs.Sums.{differences}
use Rattle.code_through.proofs.product_at.Given as goal

abbrev pub invariant-loop-j : goal.invariant-loop-j
invariant-loop-j l = (l.j ≤ length l.points) × (l.v.0 ≡ differences (drop l.j l.points) l.z)
