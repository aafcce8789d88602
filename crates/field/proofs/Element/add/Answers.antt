-- `field::Element::add` meets its contract.
-- Assumes nothing.
use mathlib.Core.Path.{refl}
use Rattle.field.specs.Field.{add}
use Rattle.field.proofs.Element.add.Goals as goal

pub returns : goal.returns
unfolding add
returns c = refl
