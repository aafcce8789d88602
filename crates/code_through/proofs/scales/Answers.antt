-- `code_through::scales` meets its contract.
-- Assumes nothing.
use mathlib.Core.Path.{◌≡◌, sym, subst}
use Prim.Native.Nat.{ℕ, ◌<◌}
use native.Mathlib.Nat as N
use native.Mathlib.Omega.{arith}
use lib.ListN.{get_or}
use Rattle.field.specs.Field.{mul}
use Rattle.code_through.proofs.Weights.{nonzero}
use Rattle.code_through.proofs.scales.Goals as goal

pub returns : goal.returns
returns c =
    let slopes = c.slopes in let a = c.args in
    let p = c.requires in
    λ j h.
    let e = slopes.ensures j h in
    subst (λ (v : ℕ). mul v (get_or c.invert_all.new.xs j 0) ≡ 1) e
    (c.invert_all.ensures j (omega (arith, slopes.auto.ds, p.3)) (subst (λ (v : ℕ). 0 < v) (sym e) (N.pos_of_ne-zero (nonzero a.points.now a.m.now p.0 p.1 (λ i. omega (arith, c.type_inv.points i)) p.0.small j h))))
