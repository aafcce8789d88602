-- `tree_grow::lay` meets its contract. Assumes nothing.
use Prim.Native.Nat.{ℕ, ◌≤◌, ◌+◌}
use mathlib.Core.Path.{◌≡◌}
use mathlib.Core.List.{List}
use lib.ListN.{length}
use Rattle.tree.specs.Levels.{paths_to}
use Rattle.tree_grow.proofs.lay.Given as goal

abbrev pub invariant-loop-i : goal.invariant-loop-i
invariant-loop-i l = (l.c + 1 ≤ l.i) × (length l.paths ≡ length l.initial.paths) × ((fs : ℕ → List ℕ) (old : List ℕ) → l.initial.paths ≡ paths_to l.n fs l.d (l.c + 1) old → l.paths ≡ paths_to l.n fs l.d l.i old)
