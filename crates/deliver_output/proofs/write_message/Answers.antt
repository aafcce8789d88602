-- `deliver_output::write_message` meets its contract.
-- Assumes nothing.
use mathlib.Core.Path.{◌≡◌, refl, sym, ap, ◌∙◌, subst}
use mathlib.Core.List.{List}
use Prim.Native.Nat.{ℕ, suc, ◌+◌, ◌-◌}
use native.Mathlib.Numerals.{add-one}
use native.Mathlib.Omega.{arith}
use lib.ListN.{length, get_or, get_or-replicate}
use Rattle.code_through.specs.Sums.{Weights}
use Rattle.code_through.proofs.Columns.{weights_start, weights_next}
use Rattle.deliver.specs.Working.{Copied}
use Rattle.deliver.proofs.Copying.{copied_none, copied_next, copied_all}
use Rattle.deliver_output.proofs.write_message.Goals as goal

pub loop-i-init : goal.loop-i-init
loop-i-init c =
    let a = c.args in
    let p = c.requires in
    let w = c.fill in (
      omega arith,
      refl,
      w.auto.self ∙ p.1,
      p.2,
      weights_start a.kept.now.points.now a.m.now a.ds.now w.new.self p.7 (w.auto.self ∙ p.1)
          (λ j h. ap (λ (l : List ℕ). get_or l j 0) (w.ensures.after (λ y e. e)) ∙ get_or-replicate _ j 0 0 (omega (arith, w.auto.self))),
      λ b M. copied_none b a.size (length a.kept.now.points.now) a.out.now a.kept.now.ready.some,
    )

pub loop-i-preserved : goal.loop-i-preserved
loop-i-preserved c =
    let a = c.args in
    let p = c.requires in
    let l = c.loop-i in
    let v = c.advance in
    let write_column = c.write_column in
    let k = length a.kept.now.points.now in
    let z : l.i - 1 + 1 ≡ l.i = omega (arith, c.loop-i-test.true) in
    let y : suc (l.i - 1) ≡ l.i = omega (arith, c.loop-i-test.true) in
    let old = subst (λ (i : ℕ). Weights a.kept.now.points.now a.m.now a.ds.now (suc i) l.ws) (sym z) l.invariant.4 in
    let next = subst (λ (i : ℕ). Weights a.kept.now.points.now a.m.now a.ds.now i v.new.ws) (add-one (l.i - 1)) (weights_next a.kept.now.points.now a.m.now
    a.ds.now l.ws v.new.ws (l.i - 1 + 1) p.7 (omega arith) old v.ensures) in (
      omega arith,
      write_column.auto.out ∙ l.invariant.1,
      v.auto.ws ∙ l.invariant.2,
      write_column.auto.sum ∙ l.invariant.3,
      next,
      λ b M. copied_next b a.size k a.out.now a.kept.now.ready.some (l.i - 1) a.len write_column.new.out p.6
          (write_column.ensures b a.out.now (λ d h. M.byte v.new.ws d (l.i - 1) h (omega arith) next) (subst (λ (i : ℕ). Copied b a.size k i 0
          a.out.now l.out) (sym y) (l.invariant.5 b M))),
    )

pub returns : goal.returns
returns c =
    let a = c.args in
    let p = c.requires in
    let l = c.loop-i in
    let z : l.i ≡ 0 = omega arith in
    λ b M. copied_all b a.size (length a.kept.now.points.now) a.out.now a.kept.now.ready.some 0 l.out l.invariant.1 p.5 (omega (arith, p.6, M.size)) (subst (λ
    (i : ℕ). Copied b a.size (length a.kept.now.points.now) i 0 a.out.now l.out) z (l.invariant.5 b M))
