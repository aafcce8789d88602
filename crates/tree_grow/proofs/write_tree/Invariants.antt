-- `tree_grow::write_tree` meets its contract. Assumes nothing.
use Prim.Native.Nat.{◌≤◌}
use mathlib.Core.Path.{◌≡◌}
use lib.ListN.{length}
use Rattle.tree.specs.Levels.{paths_to}
use Rattle.tree.specs.Area.{leaf_at}
use Rattle.tree_grow.proofs.write_tree.Given as goal

abbrev pub invariant-loop-d : goal.invariant-loop-d
invariant-loop-d l = (l.d ≤ 6) × (length l.paths ≡ length l.initial.paths) × (l.paths ≡ paths_to l.n (leaf_at l.s l.len l.area) l.d 0 l.initial.paths)
