-- `field::Element::product_by_logs` meets its contract: a sum of logarithms is the logarithm of the product.
-- Assumes nothing.
use mathlib.Core.Path.{sym, ap₂, ◌∙◌}
use Rattle.field.specs.Field.{mul}
use Rattle.field.proofs.Laws.{zero_mul_l, zero_mul_r}
use Rattle.field.proofs.Powers.{power_add}
use Rattle.field.proofs.Element.product_by_logs.Goals as goal
use Rattle.field.proofs.Element.product_by_logs.Goals.{then-self-eq0-via-then-self-eq0, then-self-eq0-via-else-self-eq0+then-other-eq0}

pub returns-then-self-eq0 : goal.returns-then-self-eq0
returns-then-self-eq0 c =
    elim c.then-self-eq0.branch [
      | then-self-eq0-via-then-self-eq0 w ↦ sym (rw w.if-self-eq0.true (zero_mul_l _))
      | then-self-eq0-via-else-self-eq0+then-other-eq0 w ↦ sym (rw w.if-other-eq0.true (zero_mul_r _))
    ]

pub returns : goal.returns
returns c =
    c.power.ensures ∙ power_add c.log.result c.log-2.result
    ∙ ap₂ mul c.log.ensures.1 c.log-2.ensures.1
