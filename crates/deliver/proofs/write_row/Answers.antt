-- `deliver::write_row` meets its contract.
-- Assumes nothing.
use mathlib.Core.Path.{◌≡◌, sym, ap, ◌∙◌, subst}
use mathlib.Core.List.{List}
use Prim.Native.Nat.{ℕ, suc, ◌+◌, ◌-◌}
use native.Mathlib.Numerals.{add-one}
use native.Mathlib.Omega.{arith}
use lib.ListN.{length, length-set, get_or, get_or-replicate}
use Rattle.code_through.specs.Sums.{Weights}
use Rattle.code_through.proofs.Columns.{weights_start, weights_next}
use Rattle.deliver.proofs.Lines.{row_byte, row_from}
use Rattle.deliver.proofs.write_row.Goals as goal

pub loop-i-init : goal.loop-i-init
loop-i-init c =
    let a = c.args in let p = c.requires in let w = c.fill in (
      omega arith,
      p.3,
      w.auto.self ∙ p.4,
      weights_start a.kept.now.points.now a.m.now c.scale.new.es w.new.self p.1 (w.auto.self ∙ p.4)
          (λ j h. ap (λ (l : List ℕ). get_or l j 0) (w.ensures.after (λ y e. e)) ∙ get_or-replicate _ j 0 0 (omega (arith, w.auto.self))),
      λ len b M h q g l. absurd (omega arith),
    )

pub loop-i-preserved : goal.loop-i-preserved
loop-i-preserved c =
    let a = c.args in
    let p = c.requires in let l = c.loop-i in
    let v = c.advance in let t = c.loop-i-test.true in let z : l.i - 1 + 1 ≡ l.i = omega (arith, t) in
    let old = subst (λ (i : ℕ). Weights a.kept.now.points.now a.m.now c.scale.new.es (suc i) l.ts) (sym z) l.invariant.3 in
    let next = subst (λ (i : ℕ). Weights a.kept.now.points.now a.m.now c.scale.new.es i v.new.ws) (add-one (l.i - 1)) (weights_next a.kept.now.points.now a.m.now c.scale.new.es l.ts v.new.ws (l.i - 1 + 1) p.1 (omega arith) old v.ensures) in (
      omega arith,
      simp length-set l.invariant.1,
      v.auto.ws ∙ l.invariant.2,
      next,
      λ len b M h.
          row_from (length a.kept.now.points.now) a.c l.i b l.row c.sum_of.result t (omega (arith, l.invariant.0, l.invariant.1)) (l.invariant.4 len b M h)
          (c.sum_of.ensures ∙ row_byte a.kept.now.area.now a.kept.now.s a.kept.now.points.now a.m.now a.ds.now len b c.scale.new.es v.new.ws a.c (l.i - 1) (length v.new.ws) M c.scale.ensures next h (omega (arith, l.invariant.0, t)) (v.auto.ws ∙ l.invariant.2)),
    )

pub returns : goal.returns
returns c = λ len b M h q g. c.loop-i.invariant.4 len b M h q (omega arith) g
