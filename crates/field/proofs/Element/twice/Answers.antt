-- `field::Element::twice` meets its contract.
-- Assumes nothing.
use native.Mathlib.Omega.{arith}
use Rattle.field.specs.Field.{add}
use Rattle.field.proofs.Bits.{shifted}
use Rattle.field.proofs.Element.twice.Goals as goal

pub returns : goal.returns
unfolding add
returns c = shifted c.args.self.0 (omega arith)
