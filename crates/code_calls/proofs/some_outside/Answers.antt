use mathlib.Core.Path.{sym, ◌∙◌}
use native.Mathlib.Omega.{arith}
use Rattle.octets.specs.Sets.{some}
use Rattle.octets.proofs.SetLaws.{some_on, some_off, some_end, whole}
use Rattle.code_calls.specs.Rebuilding.{some_outside}
use Rattle.code_calls.proofs.some_outside.Goals as goal

pub loop-i-init : goal.loop-i-init
unfolding some_outside
loop-i-init c = (omega arith, sym (whole (some _) _ _ (omega arith)))

pub returns-then-outside_at : goal.returns-then-outside_at
returns-then-outside_at c = sym (c.loop-i.invariant.1 ∙ some_on _ _ _ c.loop-i-test.true (sym c.outside_at.ensures ∙ c.if-outside_at.true))

pub loop-i-preserved : goal.loop-i-preserved
loop-i-preserved c = (omega arith, c.loop-i.invariant.1 ∙ some_off _ _ _ c.loop-i-test.true (sym c.outside_at.ensures ∙ c.if-outside_at.false))

pub returns : goal.returns
returns c = sym (c.loop-i.invariant.1 ∙ some_end _ _ _ c.loop-i-test.false)
