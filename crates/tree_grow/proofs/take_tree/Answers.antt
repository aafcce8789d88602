-- `tree_grow::take_tree` meets its contract. Assumes nothing.
use Prim.Native.Nat.{ℕ, ◌≤◌, ◌<◌, ◌+◌, ◌-◌, ◌*◌, ◌^◌}
use mathlib.Core.Path.{◌≡◌, sym, ap, ap₂, ◌∙◌, subst}
use native.Mathlib.Omega.{arith}
use native.Mathlib.Nat.{mul-le-mul_right, add-mul, one-mul}
use Rattle.sha256.specs.Sha256.{digest, sha256}
use lib.ListN.{length, take, drop, length-take, length-drop}
use Rattle.octets.proofs.Laws.{part_range, length_part}
use Rattle.tree.specs.Tree.{Tree, depth, root, leaf_hash, node_hash}
use Rattle.tree.specs.Levels.{span, start, around}
use Rattle.tree.specs.Area.{leaf_at}
use Rattle.tree.proofs.Spans.{start_lower}
use Rattle.tree.proofs.Paths.{halves_root}
use Rattle.tree_grow.proofs.take_tree.Goals as goal

pub returns-then-e-lt1 : goal.returns-then-e-lt1
unfolding root span leaf_at
returns-then-e-lt1 c =
    let a = c.args in
    let z : c.fork_of-e.result ≡ 0 = omega arith in (
      c.take_leaf.ensures.0,
      λ c' old hp. c.take_leaf.ensures.1
          ∙ ap (leaf_hash sha256) (part_range (a.a * a.s) a.len a.area.now)
          ∙ ap (λ (e : ℕ). root sha256 (leaf_at a.s a.len a.area.now) (span a.n e a.a)) (sym z)
          ∙ ap (λ (t : Tree). root sha256 (leaf_at a.s a.len a.area.now) t) c.fork_of-e.ensures.1,
    )

pub returns : goal.returns
returns c =
    let a = c.args in
    let fs = leaf_at a.s a.len a.area.now in
    let f = c.fork_of-e in
    let r = f.result in
    let e = r - 1 in
    let up : e + 1 ≡ r = omega arith in
    let top : r + (a.d - r) ≡ a.d = omega arith in
    let first : start (e + 1) a.a ≡ a.a =
    subst (λ (k : ℕ). start k a.a ≡ a.a) (sym up) (start_lower r (a.d - r) a.a (subst (λ (k : ℕ). start k a.a ≡ a.a) (sym top) c.requires.3)) in
    let h : a.a + 2 ^ e < a.n = f.ensures.2 (omega arith) in
    let w : a.a + c.width.result ≡ a.a + 2 ^ e = omega arith in (
      c.take_node.ensures.0,
      λ c' old hp. halves_root a.n fs (omega arith) a.d (omega arith) e a.a c' (omega arith) first h a.paths.now old (omega arith) hp c.place-p.result c.place-q.result (digest c.take_node.new.h)
          (c.place-p.ensures.0 ∙ ap (λ (m : ℕ). m * 192 + 32 * depth (around a.n e m) m) w) c.place-q.ensures.0 (c.take_node.ensures.1 ∙ ap₂ (node_hash sha256) (part_range c.place-p.result 32 a.paths.now) (part_range c.place-q.result 32 a.paths.now))
          ∙ ap (λ (k : ℕ). root sha256 fs (span a.n k a.a)) up
          ∙ ap (λ (t : Tree). root sha256 fs t) f.ensures.1,
    )
