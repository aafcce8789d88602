-- `tree_grow::further` meets its contract. Assumes nothing.
use Prim.Native.Nat.{ℕ, ◌≤◌}
use mathlib.Core.Path.{◌≡◌}
use mathlib.Core.List.{List}
use lib.ListN.{length}
use Rattle.tree.specs.Levels.{start, paths_to}
use Rattle.tree.specs.Area.{leaf_at}
use Rattle.tree_grow.proofs.further.Given as goal

abbrev pub invariant-loop-c : goal.invariant-loop-c
invariant-loop-c l = (l.c ≤ 128) × (start l.d l.c ≡ l.c) × (length l.paths ≡ length l.initial.paths) × ((old : List ℕ) → l.initial.paths ≡ paths_to l.n (leaf_at l.s l.len l.area) l.d 0 old → l.paths ≡ paths_to l.n (leaf_at l.s l.len l.area) l.d l.c old)
