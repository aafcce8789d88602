-- `tree_stack::climb_up` meets its contract. The loop's invariant: the hash is taken up as far as level d.
-- Assumes nothing.
use Prim.Native.Nat.{ℕ, ◌≤◌}
use mathlib.Core.Path.{◌≡◌}
use mathlib.Core.List.{List}
use lib.ListN.{length}
use Rattle.octets.specs.Bytes.{part}
use Rattle.sha256.specs.Sha256.{sha256}
use Rattle.tree.specs.Tree.{leaf_hash, climb}
use Rattle.tree.specs.Check.{node_of}
use Rattle.tree.specs.Levels.{around}
use Rattle.tree_stack.specs.Stack.{top}
use Rattle.tree_stack.proofs.climb_up.Given as goal

abbrev pub invariant-loop-d : goal.invariant-loop-d
invariant-loop-d l = (l.d ≤ 6) × (l.at ≡ top l.d l.i) × (length l.stack ≡ length l.initial.stack) × ((f : List ℕ) → part (top 0 l.i) 32 l.initial.stack ≡ leaf_hash sha256 f → part l.at 32 l.stack ≡ climb sha256 (node_of l.path) (around l.n l.d l.i) l.i f)
