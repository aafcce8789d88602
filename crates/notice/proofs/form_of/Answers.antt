use mathlib.Core.Path.{refl}
use Rattle.octets.specs.Bytes.{pick}
use Rattle.record.proofs.Reading.{fine}
use Rattle.notice.specs.Form.{notice_form}
use Rattle.notice.proofs.Reading.{notice_stopped, some_notice_kind, notice_kind_stopped, notice_kind_fine}
use Rattle.notice.proofs.form_of.Goals as goal

pub returns-in_err-kind : goal.returns-in_err-kind
unfolding notice_form pick
returns-in_err-kind c = notice_kind_stopped _ _ _ _ _ c.from_residual.ensures.1 c.notice_kind.ensures c.in_err-kind.was

pub returns-in_err-field : goal.returns-in_err-field
unfolding notice_form pick
returns-in_err-field c = rw (← notice_kind_fine _ _ _ c.notice_kind.ensures c.in_ok-kind.was, some_notice_kind _) (notice_stopped _ _ _ _ _ _ _ c.from_residual-in_err-field.ensures.1 c.field.ensures c.in_err-field.was)

pub returns : goal.returns
unfolding notice_form pick
returns c = rw (← notice_kind_fine _ _ _ c.notice_kind.ensures c.in_ok-kind.was, some_notice_kind _, fine _ _ _ _ c.field.ensures c.in_ok-field.was) refl
