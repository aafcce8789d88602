use Prim.Native.Nat.{ℕ, ◌+◌, ◌^◌}
use mathlib.Core.Path.{◌≡◌, sym, ap, ◌∙◌, subst}
use native.Mathlib.Omega.{arith}
use Rattle.sha256.specs.Sha256.{sha256}
use Rattle.tree.specs.Tree.{root}
use Rattle.tree.specs.Levels.{span, start, paths_to}
use Rattle.tree.specs.Area.{leaf_at}
use Rattle.tree.proofs.Spans.{start_low, start_next, middle_is}
use Rattle.tree.proofs.Paths.{paths_done, paths_level, rooms_kept}
use Rattle.tree.proofs.Runs.{beside_low}
use Rattle.tree.proofs.Lays.{alone_first, beside_first}
use Rattle.tree_grow.proofs.further.Goals as goal

pub loop-c-init : goal.loop-c-init
loop-c-init c = (omega arith, omega (arith, start_low c.args.d 0), omega arith, λ old hp. hp)

pub returns-then-n-middle_of : goal.returns-then-n-middle_of
returns-then-n-middle_of c =
    λ old hp.
    let a = c.args in
    let l = c.loop-c in
    let left : start (a.d + 1) l.c ≡ l.c = alone_first a.d l.c l.invariant.1 (omega arith) in
    l.invariant.3 old hp ∙ paths_level a.n (leaf_at a.s a.len a.area.now) a.d l.c old left (omega (arith, middle_is a.d l.c))

pub take_tree-requires : goal.take_tree-requires
take_tree-requires c =
    let a = c.args in
    let l = c.loop-c in
    let e = c.beside_of.ensures in (
      rooms_kept _ _ _ _ _ _ c.requires.0 l.invariant.2,
      omega arith,
      omega (arith, e, beside_low a.n a.d l.c (omega arith) (omega arith)),
      subst (λ (x : ℕ). start a.d x ≡ x) (sym e) (beside_first a.d l.c),
    )

pub loop-c-preserved : goal.loop-c-preserved
loop-c-preserved c =
    let a = c.args in
    let l = c.loop-c in
    let fs = leaf_at a.s a.len a.area.now in
    let next : l.c + 2 ^ a.d ≡ l.c + c.width-c-step.result = omega arith in (
      omega arith,
      subst (λ (x : ℕ). start a.d x ≡ x) next (start_next a.d l.c l.invariant.1),
      omega arith,
      λ old hp.
          let now = l.invariant.3 old hp in
          c.lay.ensures fs old (c.take_tree.ensures.1 l.c old now ∙ ap (λ (x : ℕ). root sha256 fs (span a.n a.d x)) c.beside_of.ensures) now
          ∙ ap (λ (x : ℕ). paths_to a.n fs a.d x old) next,
    )

pub returns : goal.returns
returns c =
    λ old hp.
    let a = c.args in
    let l = c.loop-c in
    l.invariant.3 old hp ∙ paths_done a.n (leaf_at a.s a.len a.area.now) a.d l.c old (omega arith)

pub returns-else-n-middle_of : goal.returns-else-n-middle_of
returns-else-n-middle_of c =
    λ old hp.
    let a = c.args in
    let l = c.loop-c in
    let fs = leaf_at a.s a.len a.area.now in
    let now = l.invariant.3 old hp in
    c.lay.ensures fs old (c.take_tree.ensures.1 l.c old now ∙ ap (λ (x : ℕ). root sha256 fs (span a.n a.d x)) c.beside_of.ensures) now
    ∙ paths_done a.n fs a.d (l.c + 2 ^ a.d) old (omega arith)
