-- `code_through::master` meets its contract. The loop's invariant: from j on the row has the product for the points from j on.
-- Assumes nothing.
use mathlib.Core.Path.{◌≡◌}
use mathlib.Core.List.{[], ◌∷◌, ◌++◌}
use Prim.Native.Nat.{ℕ, ◌<◌, ◌≤◌}
use lib.ListN.{length, get_or}
use Rattle.code_through.proofs.Newton.{Expanded}
use Rattle.code_through.proofs.master.Given as goal

abbrev pub invariant-loop-j : goal.invariant-loop-j
invariant-loop-j l = (l.j ≤ length l.points) × (get_or l.row (length l.points) 0 ≡ 1) × Expanded (l.points ++ 0 ∷ []) l.initial.row l.row l.j × ((i : ℕ) → get_or l.row i 0 < 256)
