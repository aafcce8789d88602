-- `field::Element::inverse_by_logs` meets its contract: the two logarithms add up to 255.
-- Assumes nothing.
use mathlib.Core.Path.{sym, ap₂, ◌∙◌}
use Rattle.field.specs.Field.{mul}
use Rattle.field.proofs.Powers.{power_turn}
use Rattle.field.proofs.Element.inverse_by_logs.Goals as goal

pub returns : goal.returns
returns c = ap₂ mul (sym c.log.ensures.1) c.power.ensures ∙ power_turn c.log.result c.log.ensures.0
