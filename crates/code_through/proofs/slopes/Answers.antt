use mathlib.Core.Path.{◌≡◌, refl, subst}
use Prim.Native.Nat.{ℕ, suc, ◌+◌, ◌-◌}
use Rattle.code_through.proofs.Weights.{Sloped, sloped_start, sloped_next}
use native.Mathlib.Omega.{arith}
use Rattle.code_through.proofs.slopes.Goals as goal

pub loop-i-init : goal.loop-i-init
loop-i-init c =
    let a = c.args in let p = c.requires in (
      omega arith,
      sloped_start a.points.now a.m.now c.fill.new.self c.fill-2.new.self p.0 (λ j h. c.fill.ensures.clones j 0 (omega (arith, p.1)) refl) (λ j h. c.fill-2.ensures.clones j 0 (omega (arith, p.2)) refl),
    )

pub loop-i-preserved : goal.loop-i-preserved
loop-i-preserved c =
    let a = c.args in let l = c.loop-i in
    let d = c.deepen in let z : l.i ≡ suc (l.i - 1) = omega arith in
    let e : l.i - 1 + 1 ≡ l.i = omega arith in (
      omega arith,
      subst (λ (i : ℕ). Sloped a.points.now a.m.now i d.new.low d.new.ds) z
          (sloped_next a.points.now a.m.now l.i l.low l.ds d.new.low d.new.ds c.requires.0 (omega arith) l.invariant.1 (rw e at d.ensures)),
    )
