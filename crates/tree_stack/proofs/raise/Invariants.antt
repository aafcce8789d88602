-- `tree_stack::raise` meets its contract. The loop's invariant: the hash is taken up as far as level d.
-- Assumes nothing.
use Prim.Native.Nat.{◌≤◌}
use mathlib.Core.Path.{◌≡◌}
use Rattle.tree_stack.specs.Stack.{top}
use Rattle.tree_stack.proofs.Stacks.{Rising}
use Rattle.tree_stack.proofs.raise.Given as goal

abbrev pub invariant-loop-d : goal.invariant-loop-d
invariant-loop-d l = (l.d ≤ 6) × (l.at ≡ top l.d l.i) × Rising l.n l.i l.d l.initial.stack l.stack
