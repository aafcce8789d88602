-- `field::Element::inverse` meets its contract. a · a^254 is a^255.
-- Assumes nothing.
use mathlib.Core.Path.{◌≡◌, ap, ◌∙◌}
use native.Mathlib.Omega.{arith}
use Rattle.field.specs.Field.{mul}
use Rattle.field.proofs.Bits.{power_254, is_inverse}
use Rattle.field.proofs.Element.inverse.Goals as goal

pub returns : goal.returns
returns c =
    let g = c.well_formed in
    let e : c.product-7.result.0 ≡ power_254 c.args.self.0 = rw (
      c.product-7.ensures,
      c.product-a127.ensures,
      c.product-6.ensures,
      c.product-a63.ensures,
      c.product-5.ensures,
      c.product-a31.ensures,
      c.product-4.ensures,
      c.product-a15.ensures,
      c.product-3.ensures,
      c.product-a7.ensures,
      c.product-2.ensures,
      c.product-a3.ensures,
      c.product.ensures,
    ) in
    λ pos. ap (mul _) e ∙ is_inverse _ pos (omega arith)
