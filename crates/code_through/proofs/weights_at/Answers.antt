-- `code_through::weights_at` meets its contract.
-- Assumes nothing.
use mathlib.Core.Path.{◌≡◌, subst}
use Prim.Native.Nat.{ℕ, ◌<◌}
use lib.ListN.{get_or}
use Rattle.field.specs.Field.{mul}
use Rattle.code_through.specs.Sums.{Weight}
use Rattle.code_through.proofs.Weights.{weight_value}
use native.Mathlib.Omega.{arith}
use Rattle.code_through.proofs.weights_at.Goals as goal

pub returns : goal.returns
returns c =
    let subtract = c.subtract in let invert_all = c.invert_all in
    let a = c.args in let u = subtract.new.out in let i = invert_all.new.xs in let w = c.weigh.new.ws in
    λ m M S j h.
    weight_value a.points.now m a.ds.now a.z j (get_or i j 0) (get_or w j 0) M S h
    (subst (λ (d : ℕ). 0 < d → mul d (get_or i j 0) ≡ 1) (subtract.ensures j h) (invert_all.ensures j (omega (arith, subtract.auto.out, c.requires.1))))
    (subst (λ (at : ℕ). Weight (get_or a.points.now j 0) a.z (get_or a.ds.now j 0) at (get_or i j 0) (get_or w j 0)) c.product_at.ensures (c.weigh.ensures j h))
