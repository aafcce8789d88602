use mathlib.Core.Path.{sym}
use Rattle.notice_step.specs.Planned.{notice_plan}
use Rattle.notice_step.specs.Step.{notice_step_of, notice_by_plan}
use Rattle.notice_step.proofs.step.Goals as goal

pub take_record-requires : goal.take_record-requires
unfolding notice_plan
take_record-requires c =
    let z = rw c.in-Ok.is at c.plan_for.ensures in (_, sym z)

pub returns-in-Ok : goal.returns-in-Ok
unfolding notice_step_of notice_plan notice_by_plan
returns-in-Ok c =
    let z = rw c.in-Ok.is at c.plan_for.ensures in rw (← z) c.take_record.ensures

pub returns-in-Err : goal.returns-in-Err
unfolding notice_step_of notice_plan notice_by_plan
returns-in-Err c =
    let z = rw c.in-Err.is at c.plan_for.ensures in rw (← z, ← c.number.ensures.0)
