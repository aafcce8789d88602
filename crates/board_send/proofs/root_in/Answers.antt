-- `board_send::root_in` meets its contract.
-- Assumes nothing.
use mathlib.Core.Path.{◌≡◌, ap, ◌∙◌}
use native.Mathlib.Omega.{arith}
use Prim.Native.Nat.{ℕ, ◌+◌, ◌-◌, ◌*◌}
use lib.ListN.{take, drop}
use mathlib.Core.List.{List}
use Rattle.octets.specs.Bytes.{part, put}
use Rattle.octets.proofs.Laws.{part_range}
use Rattle.sha256.specs.Sha256.{sha256}
use Rattle.tree.specs.Tree.{tree_of, climb, leaf_hash}
use Rattle.tree.specs.Check.{node_of}
use Rattle.tree_stack.proofs.Stacks.{leaf_top}
use Rattle.board_send.proofs.root_in.Goals as goal

pub returns : goal.returns
unfolding part
returns c =
    let top_of = c.top_of in let put_leaf = c.put_leaf in let a = c.args in
    let p = c.requires in let e : 37 + 32 * a.nodes - 37 ≡ 32 * a.nodes = omega arith in let f : 37 + 32 * a.nodes + 2 ≡ 39 + 32 * a.nodes = omega arith in
    c.climb_up.ensures (part (37 + 32 * a.nodes + 2) a.len a.out.now) (leaf_top a.i top_of.result (part (37 + 32 * a.nodes + 2) a.len a.out.now) a.stack.now put_leaf.new.stack (omega (arith, p.0, p.1)) p.6 top_of.ensures.0
    (put_leaf.ensures ∙ ap (λ (v : List ℕ). put top_of.result (leaf_hash sha256 v) a.stack.now) (part_range (37 + 32 * a.nodes + 2) a.len a.out.now)))
    ∙ ap (λ (x : ℕ). climb sha256 (node_of (take x (drop 37 a.out.now))) (tree_of a.n) a.i (part (37 + 32 * a.nodes + 2) a.len a.out.now)) e
    ∙ ap (λ (x : ℕ). climb sha256 (node_of (take (32 * a.nodes) (drop 37 a.out.now))) (tree_of a.n) a.i (part x a.len a.out.now)) f
