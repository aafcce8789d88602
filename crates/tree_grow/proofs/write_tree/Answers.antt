use Prim.Native.Nat.{ℕ}
use mathlib.Core.Path.{◌≡◌, sym, ap, ◌∙◌}
use mathlib.Core.List.{List}
use native.Mathlib.Omega.{arith}
use Rattle.octets.specs.Bytes.{put}
use Rattle.sha256.specs.Sha256.{sha256}
use Rattle.tree.specs.Tree.{Tree, root, root_of}
use Rattle.tree.specs.Levels.{paths_to}
use Rattle.tree.specs.Area.{leaf_at}
use Rattle.tree.proofs.Spans.{start_low, tree_span}
use Rattle.tree.proofs.Paths.{paths_start, paths_end, rooms_kept}
use Rattle.tree_grow.proofs.write_tree.Goals as goal

pub loop-d-init : goal.loop-d-init
loop-d-init c =
    let a = c.args in
    (omega arith, omega arith, sym (paths_start a.n (leaf_at a.s a.len a.area.now) a.paths.now))

pub take_tree-requires : goal.take_tree-requires
take_tree-requires c = (rooms_kept _ _ _ _ _ _ c.requires.0 c.loop-d.invariant.1, omega arith, omega arith, omega (arith, start_low 6 0))

pub returns : goal.returns
unfolding root_of
returns c =
    let a = c.args in
    let l = c.loop-d in
    let fs = leaf_at a.s a.len a.area.now in
    let e : l.d ≡ 6 = omega arith in
    let done : l.paths ≡ paths_to a.n fs 6 0 a.paths.now = l.invariant.2 ∙ ap (λ (d : ℕ). paths_to a.n fs d 0 a.paths.now) e in (
      c.put_digest.ensures
          ∙ ap (λ (x : List ℕ). put 0 x a.root.now) (c.take_tree.ensures.1 0 a.paths.now done ∙ ap (λ (t : Tree). root sha256 fs t) (sym (tree_span a.n (omega arith) (omega arith)))),
      done ∙ paths_end a.n fs a.paths.now (omega arith),
    )
