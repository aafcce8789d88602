-- `tree::rise_up` meets its contract. Assumes nothing.
use Prim.Native.Nat.{ℕ, ◌≤◌}
use mathlib.Core.Path.{◌≡◌}
use mathlib.Core.List.{List}
use lib.ListN.{length}
use Rattle.sha256.specs.Sha256.{digest, sha256}
use Rattle.tree.specs.Tree.{depth, leaf_hash, climb}
use Rattle.tree.specs.Check.{node_of}
use Rattle.tree.specs.Levels.{around}
use Rattle.tree.proofs.rise_up.Given as goal

abbrev pub invariant-loop-d : goal.invariant-loop-d
invariant-loop-d l = (l.d ≤ 6) × (l.j ≡ depth (around l.n l.d l.i) l.i) × (length l.h ≡ 8) × (length l.pair ≡ 64) × ((f : List ℕ) → digest l.initial.h ≡ leaf_hash sha256 f → digest l.h ≡ climb sha256 (node_of l.path) (around l.n l.d l.i) l.i f)
