use mathlib.Core.Path.{◌≡◌, refl, sym, subst}
use Prim.Native.Nat.{ℕ, suc, ◌+◌, ◌-◌}
use native.Mathlib.Omega.{arith}
use Rattle.code_through.specs.Sums.{Weights}
use Rattle.code_through.proofs.Columns.{Filled, weights_start, weights_next, filled_next, filled_rows}
use Rattle.code_rebuild.proofs.write_columns.Goals as goal

pub loop-i-init : goal.loop-i-init
loop-i-init c =
    let a = c.args in (
      omega arith,
      weights_start a.points.now a.m.now a.ds.now a.ws.now c.requires.6.size c.requires.9 c.requires.10,
      record { each = λ d q h g e. absurd (omega arith); after = λ p h. refl },
    )

pub loop-i-preserved : goal.loop-i-preserved
loop-i-preserved c =
    let a = c.args in
    let l = c.loop-i in
    let v = c.advance in
    let w = c.write_column in
    let z : suc (l.i - 1) ≡ l.i = omega arith in
    let e : l.i - 1 + 1 ≡ l.i = omega arith in
    let w8 = subst (λ (i : ℕ). Weights a.points.now a.m.now a.ds.now i v.new.ws) (sym z)
    (weights_next a.points.now a.m.now a.ds.now l.ws v.new.ws l.i c.requires.6.size (omega arith) l.invariant.1 (rw e at v.ensures)) in (
      omega arith,
      w8,
      filled_next a.area.now a.s a.points.now a.m.now a.ds.now a.count a.out.now (l.i - 1) v.new.ws l.out w.new.out
          (omega arith) w8 (subst (λ (i : ℕ). Filled a.area.now a.s a.points.now a.m.now a.ds.now a.count i a.out.now l.out) (sym z) l.invariant.2) w.ensures,
    )

pub returns : goal.returns
returns c =
    let a = c.args in
    let l = c.loop-i in
    let z : l.i ≡ 0 = omega arith in
    filled_rows a.area.now a.s a.points.now a.m.now a.ds.now a.count a.out.now c.requires.6 c.requires.3
    (λ i. omega (arith, c.type_inv.points i)) (λ i. omega (arith, c.type_inv.m i)) c.requires.8
    (λ i. omega (arith, c.type_inv.area i)) l.out (omega (arith, c.requires.5, l.auto.out))
    (subst (λ (i : ℕ). Filled a.area.now a.s a.points.now a.m.now a.ds.now a.count i a.out.now l.out) z l.invariant.2)
