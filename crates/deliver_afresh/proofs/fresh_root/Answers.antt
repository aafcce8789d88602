use mathlib.Core.Path.{◌≡◌, refl, sym, ◌∙◌, subst}
use Prim.Native.Nat.{ℕ, suc, ◌+◌}
use native.Mathlib.Numerals.{add-one}
use native.Mathlib.Omega.{arith}
use lib.ListN.{length}
use Rattle.tree_stack.proofs.Stacks.{risen_first, risen_next, leaf_on}
use Rattle.deliver_afresh.specs.Working.{Anew}
use Rattle.deliver_afresh.proofs.Roots.{anew_leaf}
use Rattle.deliver_afresh.proofs.fresh_root.Goals as goal

pub loop-i-init : goal.loop-i-init
loop-i-init c =
    let args = c.args in let p = c.requires in (omega arith, p.1, p.2, refl, λ m b fs M a. risen_first args.n fs args.stack.now p.5)

pub loop-i-preserved : goal.loop-i-preserved
loop-i-preserved c =
    let a2 = c.args in let p = c.requires in
    let weights_at = c.weights_at in let fresh_leaf = c.fresh_leaf in
    let value_at = c.value_at-v in let top_of = c.top_of in let a = a2 in
    let l = c.loop-i in
    let t = c.loop-i-test.true in let z : l.i + 1 ≡ suc l.i = add-one l.i in (
      omega (arith, t),
      weights_at.auto.ws ∙ l.invariant.1,
      fresh_leaf.auto.buffer ∙ l.invariant.2,
      c.raise.auto.stack ∙ (fresh_leaf.auto.stack ∙ l.invariant.3),
      λ m b fs M f.
          let e = fresh_leaf.ensures (fs l.i) (anew_leaf a.kept.now.area.now a.kept.now.s a.kept.now.points.now m a.ds.now a.len b a.row.now weights_at.new.ws (l.i + 1) value_at.result (fs l.i) M (subst (λ (z : ℕ). Anew (length a.kept.now.points.now) a.len b a.row.now z (fs l.i)) (sym z) (f l.i t)) (weights_at.ensures m M.product M.scales) value_at.ensures) in
          let w = leaf_on a.n fs l.i top_of.result l.stack fresh_leaf.new.stack (omega (arith, t, p.6)) (omega (arith, l.invariant.3, p.7)) top_of.ensures.0 e ((l.invariant.4 m b fs M f).waits t) in
          risen_next a.n fs l.i _ (c.raise.ensures fs w.0 w.1),
    )

pub returns : goal.returns
returns c = λ m b fs M f. (c.loop-i.invariant.4 m b fs M f).done (omega arith)
