use mathlib.Core.Path.{◌≡◌, sym, subst}
use Prim.Native.Nat.{ℕ, ◌+◌, ◌*◌, ◌<◌}
use native.Mathlib.Omega.{arith}
use native.Mathlib.Nat as N
use lib.ListN.{length, get_or}
use Rattle.code_encode.specs.Patch.{Filled, Patch}
use Rattle.code_encode.proofs.Patches.{filled_copy, patch_next}
use Rattle.code_encode.proofs.lay_column.Goals as goal

pub loop-i-preserved : goal.loop-i-preserved
loop-i-preserved c =
    let a2 = c.args in let p = c.requires in let a = a2 in let l = c.loop-i in let f = c.copy_at in let h : l.i < a.count = omega arith in (
      omega arith,
      patch_next a.at a.s (length a.column.now) (λ j d. get_or a.column.now d 0) a.area.now l.area f.new.dst l.i p.0 l.invariant.1 (subst (λ (z : _). Filled (a.at + l.i * a.s) (length a.column.now) (λ d. get_or a.column.now d 0) l.area z) (sym f.ensures) (filled_copy (a.at + l.i * a.s) a.column.now l.area (omega (arith, N.mul-le-mul_right a.s h, p.1, l.auto.area)))),
    )

pub returns : goal.returns
returns c =
    let a = c.args in
    let l = c.loop-i in
    let e : l.i ≡ a.count = omega arith in
    subst (λ (i : ℕ). Patch a.at i a.s (length a.column.now) (λ j d. get_or a.column.now d 0) a.area.now l.area) e l.invariant.1
