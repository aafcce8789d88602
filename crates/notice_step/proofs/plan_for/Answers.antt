use mathlib.Core.Path.{sym, ◌∙◌}
use native.Mathlib.Omega.{arith}
use Rattle.std.proofs.lemmas.Grind.{common_steps}
use Rattle.octets.specs.Bytes.{pick}
use Rattle.notice.specs.State.{notice_view}
use Rattle.notice.proofs.Sounds.{notice_sounds}
use Rattle.notice_step.specs.Planned.{notice_plan_by}
use Rattle.notice_step.proofs.plan_for.Goals as goal

pub returns-then-s-lt-STATE_BYTES : goal.returns-then-s-lt-STATE_BYTES
unfolding notice_plan_by pick
returns-then-s-lt-STATE_BYTES c = grind (arith, common_steps)

pub returns-then-not-is_sound : goal.returns-then-not-is_sound
unfolding notice_plan_by pick
returns-then-not-is_sound c = grind (arith, common_steps)

pub returns-then-out-lt-OUT_BYTES : goal.returns-then-out-lt-OUT_BYTES
unfolding notice_plan_by pick
returns-then-out-lt-OUT_BYTES c = grind (arith, common_steps)

pub plan_record-requires : goal.plan_record-requires
plan_record-requires c = (c.if-s-lt-STATE_BYTES.false, (notice_sounds (notice_view c.args.s.now) (sym c.is_sound.ensures ∙ c.if-not-is_sound.false)).lim)

pub returns : goal.returns
unfolding notice_plan_by pick
returns c = grind (arith, common_steps)
