-- `tree_grow::fork_of` meets its contract. Assumes nothing.
use Prim.Native.Nat.{◌≤◌}
use mathlib.Core.Path.{◌≡◌}
use Rattle.tree.specs.Levels.{span}
use Rattle.tree_grow.proofs.fork_of.Given as goal

abbrev pub invariant-loop-e : goal.invariant-loop-e
invariant-loop-e l = (l.e ≤ l.d) × (span l.n l.e l.a ≡ span l.n l.d l.a)
