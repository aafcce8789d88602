use mathlib.Core.Path.{◌≡◌, sym, ap, ◌∙◌}
use Prim.Native.Nat.{ℕ, suc, ◌+◌, ◌-◌}
use native.Mathlib.Omega.{arith}
use lib.ListN.{length}
use Rattle.field.specs.Field.{add, double}
use Rattle.code_sum.specs.Blocks.{picked}
use Rattle.code_sum.proofs.Bitwise.{upper, upper_none, upper_next, upper_all}
use Rattle.code_sum.proofs.sum_up.Goals as goal

pub loop-b-init : goal.loop-b-init
loop-b-init c =
    let a = c.args in
    let p = c.requires in
    (p.1, λ i h. p.3 i h ∙ sym (upper_none a.area.now a.s a.points.now a.ws.now (a.c + i) (length a.points.now) a.bits (λ j g. p.2 j (omega (arith, p.0.3)))))

pub loop-b-preserved : goal.loop-b-preserved
loop-b-preserved c =
    let a = c.args in let l = c.loop-b in let d = c.double_all in
    let g = c.add_picked in let e : suc (l.b - 1) ≡ l.b = omega arith in (
      omega arith,
      λ i h.
          g.ensures i (omega (arith, d.auto.s, l.auto.sum, h))
          ∙ ap (λ (t : ℕ). add t (picked a.area.now a.s a.points.now a.ws.now (l.b - 1) (a.c + i) (length a.points.now))) (d.ensures i (omega (arith, l.auto.sum, h)) ∙ ap double (l.invariant.1 i h ∙ ap (λ (b : ℕ). upper a.area.now a.s a.points.now a.ws.now b (a.c + i) (length a.points.now)) (sym e)))
          ∙ sym
          (upper_next a.area.now a.s a.points.now a.ws.now (a.c + i) (length a.points.now) (l.b - 1) (λ q. omega (arith, c.type_inv.area q))
          (λ q. omega (arith, c.type_inv.ws q))),
    )

pub returns : goal.returns
returns c =
    let a = c.args in
    let l = c.loop-b in
    let e : l.b ≡ 0 = omega arith in
    λ i h. l.invariant.1 i h ∙ ap (λ (b : ℕ). upper a.area.now a.s a.points.now a.ws.now b (a.c + i) (length a.points.now)) e ∙ upper_all a.area.now a.s a.points.now a.ws.now (a.c + i) (length a.points.now)
