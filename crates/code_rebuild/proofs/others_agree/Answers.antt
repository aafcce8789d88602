use mathlib.Core.Path.{◌≡◌, sym, subst}
use native.Mathlib.Omega.{arith}
use lib.ListN.{length}
use Rattle.code.proofs.Lists.{false≢true}
use Rattle.code_through.proofs.Others.{Good, good_next, good_end, bad}
use Rattle.code_rebuild.proofs.others_agree.Goals as goal

pub loop-i-preserved : goal.loop-i-preserved
loop-i-preserved c =
    let a = c.args in let l = c.loop-i in
    let w = c.weights_at in let g = c.column_agrees in let t = c.loop-i-test.true in (
      omega arith,
      omega arith,
      good_next a.area.now a.s a.points.now a.m.now a.ds.now c.requires.5 c.requires.3 (λ i. omega (arith, c.type_inv.points i))
          (λ i. omega (arith, c.type_inv.m i)) c.requires.7
          (λ i. omega (arith, c.type_inv.area i)) a.marked.now a.count c.requires.4 l.i w.new.ws (w.ensures a.m.now c.requires.5 c.requires.7)
          l.invariant.2 (g.ensures.yes c.if-not-column_agrees.false),
    )

pub returns-then-not-column_agrees : goal.returns-then-not-column_agrees
returns-then-not-column_agrees c =
    let a = c.args in let l = c.loop-i in
    let w = c.weights_at in let g = c.column_agrees in record {
      yes = λ e. absurd (false≢true e);
      no = λ e.
          bad a.area.now a.s a.points.now a.m.now a.ds.now c.requires.5 c.requires.3 (λ i. omega (arith, c.type_inv.points i))
          (λ i. omega (arith, c.type_inv.m i)) c.requires.7
          (λ i. omega (arith, c.type_inv.area i)) a.marked.now a.count c.requires.4 l.i w.new.ws
          (omega (arith, l.invariant.0, c.loop-i-test.true)) (w.ensures a.m.now c.requires.5 c.requires.7) (g.ensures.no c.if-not-column_agrees.true);
    }

pub returns : goal.returns
returns c =
    let a = c.args in
    let l = c.loop-i in
    let z : l.i ≡ length a.marked.now = omega arith in record {
      yes = λ e. good_end a.area.now a.s a.points.now a.m.now a.ds.now c.requires.5 c.requires.3
          (λ i. omega (arith, c.type_inv.points i)) (λ i. omega (arith, c.type_inv.m i)) c.requires.7
          (λ i. omega (arith, c.type_inv.area i)) a.marked.now a.count c.requires.4
          (subst (Good a.area.now a.s a.points.now a.m.now a.ds.now a.marked.now a.count) z l.invariant.2);
      no = λ e. absurd (false≢true (sym e));
    }
