-- `tree_stack::add_leaf` meets its contract.
-- Assumes nothing.
use mathlib.Core.Path.{ap, ◌∙◌}
use mathlib.Core.List.{List}
use Prim.Native.Nat.{ℕ}
use native.Mathlib.Omega.{arith}
use Rattle.octets.specs.Bytes.{put}
use Rattle.sha256.specs.Sha256.{sha256}
use Rattle.tree.specs.Tree.{leaf_hash}
use Rattle.tree_stack.proofs.Stacks.{leaf_on}
use Rattle.tree_stack.proofs.add_leaf.Goals as goal

pub returns : goal.returns
returns c =
    let top_of = c.top_of in let put_leaf = c.put_leaf in let a = c.args in
    let p = c.requires in
    λ fs e s. let w = leaf_on a.n fs a.i top_of.result a.stack.now put_leaf.new.stack (omega arith) p.2 top_of.ensures.0 (put_leaf.ensures ∙ ap (λ (f : List ℕ). put top_of.result (leaf_hash sha256 f) a.stack.now) e) s in c.raise.ensures fs w.0 w.1
