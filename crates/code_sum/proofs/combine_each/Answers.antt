use mathlib.Core.Path.{refl, sym, ap, ap₂, ◌∙◌}
use Prim.Native.Nat.{ℕ, ◌+◌, ◌-◌, ◌*◌}
use native.Mathlib.Nat as N
use native.Mathlib.Omega.{arith}
use lib.ListN.{length, get_or, take, drop}
use Rattle.field.specs.Field.{add, mul}
use Rattle.code_sum.specs.Sums.{cell}
use Rattle.octets.proofs.Parts.{cleared}
use Rattle.code_sum.proofs.Weighing.{weighed_next, weighed_none, room, slice_length, slice_byte}
use Rattle.code_sum.proofs.combine_each.Goals as goal

pub loop-j-init : goal.loop-j-init
loop-j-init c =
    let a = c.args in
    (omega arith, refl, λ i h. cleared a.n a.sum.now c.clear_at.new.s c.requires.1 c.clear_at.ensures i h ∙ sym (weighed_none a.area.now a.s a.points.now a.ws.now (a.c + i)))

pub loop-j-preserved : goal.loop-j-preserved
unfolding cell
loop-j-preserved c =
    let a = c.args in
    let l = c.loop-j in
    let f = c.accumulate in
    let x = get_or a.points.now l.j 0 in
    let p = c.requires.0.0 l.j (omega arith) in
    let r = room x a.s a.c a.n (length a.area.now) p.0 c.requires.0.2 p.2 in (
      omega arith,
      f.auto.sum ∙ l.invariant.1,
      λ i h. f.ensures.each i (omega (arith, slice_length a.area.now c.place-from.result a.n (omega (arith, r, c.place-from.ensures))))
          ∙ ap₂ (λ (u v : ℕ). add u (mul (get_or a.ws.now l.j 0) v)) (l.invariant.2 i h)
          (ap (λ (p : ℕ). get_or (take (c.place-from.result + a.n - c.place-from.result) (drop c.place-from.result a.area.now)) p 0) (N.zero-add i)
          ∙ slice_byte a.area.now c.place-from.result a.n i h ∙ ap (λ (p : ℕ). get_or a.area.now p 0) (ap (λ (p : ℕ). p + i) c.place-from.ensures ∙ N.add_assoc ((x - 1) * a.s) a.c i))
          ∙ sym (weighed_next a.area.now a.s a.points.now a.ws.now (a.c + i) l.j),
    )
