-- `field::Element::bit_step` meets its contract.
-- Assumes nothing.
use mathlib.Core.Path.{ap, ◌∙◌}
use Prim.Native.Nat.{◌*◌, ◌≤◌}
use native.Mathlib.Nat as N
use native.Mathlib.Omega.{arith}
use Rattle.field.specs.Field.{add}
use Rattle.field.proofs.Element.bit_step.Goals as goal

pub overflow_mul-bit : goal.overflow_mul-bit
overflow_mul-bit c =
    let h : c.args.bit ≤ 1 = omega arith in
    omega (arith, N.mul-le-mul_right c.args.x.0 h)

pub returns : goal.returns
returns c =
    let a = c.args in c.add.ensures ∙ ap (add (a.bit * a.x.0)) c.twice.ensures
