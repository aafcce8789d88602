-- `field::Element::fold` meets its contract.
-- Assumes nothing.
use mathlib.Core.Path.{ap, ◌∙◌}
use Rattle.field.specs.Field.{add}
use Rattle.field.proofs.Element.fold.Goals as goal

pub returns : goal.returns
returns c = c.add.ensures ∙ ap (add c.args.self.0) c.product.ensures
