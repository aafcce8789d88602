use mathlib.Core.Path.{◌≡◌, refl, sym, ap, ◌∙◌}
use mathlib.Core.List.{List}
use Prim.Native.Nat.{ℕ, ◌+◌}
use native.Mathlib.Omega.{arith}
use lib.ListN.{length, get_or}
use Rattle.field.specs.Field.{add}
use Rattle.field.proofs.Laws as L
use Rattle.code_sum.proofs.Weighing.{room, place_cell, slice_length, slice_byte}
use Rattle.code_sum.proofs.Bitwise.{picked_none, picked_take, picked_skip}
use Rattle.code_sum.proofs.add_picked.Goals.{then-ws-j-eq1, else-ws-j-eq1}
use Rattle.code_sum.proofs.add_picked.Goals as goal

pub loop-j-init : goal.loop-j-init
loop-j-init c =
    let a = c.args in
    (omega arith, λ i h. sym (ap (add (get_or a.sum.now i 0)) (picked_none a.area.now a.s a.points.now a.ws.now a.b (a.c + i)) ∙ L.add_zero (get_or a.sum.now i 0)))

pub loop-j-preserved : goal.loop-j-preserved
loop-j-preserved c =
    let a = c.args in
    let l = c.loop-j in
    let b = c.if-ws-j-eq1 in
    let x = get_or a.points.now l.j 0 in
    let p = c.requires.0.0 l.j (omega arith) in
    let r = room x a.s a.c (length a.sum.now) (length a.area.now) p.0 c.requires.0.2 p.2 in
    elim b.branch [
      | then-ws-j-eq1 w ↦
          let o : b.sum ≡ w.add_part.new.sum = w.sum-is in (
            omega arith,
            λ i h. picked_take a.area.now a.s a.points.now a.ws.now a.b (a.c + i) l.j (get_or a.sum.now i 0) (get_or l.sum i 0) (get_or b.sum i 0)
                w.if-ws-j-eq1.true (l.invariant.1 i h)
                (ap (λ (t : List ℕ). get_or t i 0) o ∙ w.add_part.ensures i (omega (arith, slice_length a.area.now w.place-from.result (length l.sum) (omega (arith, r, l.auto.sum, w.place-from.ensures)), l.auto.sum, h))
                ∙ ap (add (get_or l.sum i 0)) (slice_byte a.area.now w.place-from.result (length l.sum) i (omega (arith, l.auto.sum, h)) ∙ ap (λ (p : ℕ). get_or a.area.now (p + i) 0) w.place-from.ensures ∙ place_cell a.area.now a.s a.c i x)),
          )
      | else-ws-j-eq1 w ↦
          let o : b.sum ≡ l.sum = w.sum-is in (
            omega arith,
            λ i h. picked_skip a.area.now a.s a.points.now a.ws.now a.b (a.c + i) l.j (get_or a.sum.now i 0) (get_or b.sum i 0)
                w.if-ws-j-eq1.false (ap (λ (t : List ℕ). get_or t i 0) o ∙ l.invariant.1 i h),
          )
    ]
