-- `field::Element::product` meets its contract: the definition, bit by bit.
-- Assumes nothing.
use native.Mathlib.Omega.{arith}
use Rattle.field.specs.Field.{times}
use Rattle.field.proofs.Bits.{product_times}
use Rattle.field.proofs.Element.product.Goals as goal

pub returns : goal.returns
unfolding times
returns c =
    let a = c.args in
    let g = c.well_formed in
    let e = product_times a.self.0 a.x.0 (omega arith) (omega arith) in
    cc
