-- `code_through::value_at` meets its contract. The loop's invariant: v is the value of the coefficients from j on.
-- Assumes nothing.
use mathlib.Core.Path.{◌≡◌}
use Prim.Native.Nat.{◌≤◌}
use lib.ListN.{length, drop}
use Rattle.code.specs.Code.{value}
use Rattle.code_through.proofs.value_at.Given as goal

abbrev pub invariant-loop-j : goal.invariant-loop-j
invariant-loop-j l = (l.j ≤ length l.row) × (l.v.0 ≡ value (drop l.j l.row) l.z)
