-- `tree::nodes` meets its contract. Assumes nothing.
use Prim.Native.Nat.{◌≤◌}
use mathlib.Core.Path.{◌≡◌}
use Rattle.tree.specs.Tree.{depth}
use Rattle.tree.specs.Levels.{around}
use Rattle.tree.proofs.nodes.Given as goal

abbrev pub invariant-loop-e : goal.invariant-loop-e
invariant-loop-e l = (l.e ≤ l.d) × (l.count ≡ depth (around l.n l.e l.i) l.i) × (l.count ≤ l.e)
