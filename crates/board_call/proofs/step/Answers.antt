use mathlib.Core.Path.{sym, ap, ◌∙◌}
use Rattle.std.specs.Prelude.{Result}
use Rattle.refusal.specs.declared.Refused.{Refused}
use Rattle.record.specs.declared.Outline.{Outline}
use Rattle.board.specs.Planned.{plan_as}
use Rattle.board_step.specs.Step.{step_of, by_plan}
use Rattle.board_call.proofs.step.Goals as goal

pub take_record-requires : goal.take_record-requires
take_record-requires c = sym c.plan_for.ensures ∙ ap (λ (x : Result Outline Refused). plan_as x) c.in-Ok.is

pub returns-in-Err : goal.returns-in-Err
unfolding step_of by_plan
returns-in-Err c = rw (← c.plan_for.ensures, c.in-Err.is, c.number.ensures.0)

pub returns-in-Ok : goal.returns-in-Ok
unfolding step_of by_plan
returns-in-Ok c = rw (← c.plan_for.ensures, c.in-Ok.is) c.take_record.ensures
