use mathlib.Core.Path.{refl}
use native.Mathlib.Omega.{arith}
use borrow.Author.Tests.{leb-true}
use Rattle.octets.specs.Bytes.{pick}
use Rattle.record.proofs.Reading.{fine}
use Rattle.notice.specs.Form.{parse_notice}
use Rattle.notice.proofs.Reading.{notice_stopped, some_notice_kind, notice_kind_stopped, notice_kind_fine}
use Rattle.notice.proofs.read_notice.Goals as goal

pub returns-in_err-need : goal.returns-in_err-need
unfolding parse_notice pick
returns-in_err-need c = notice_stopped _ _ _ _ _ _ _ c.from_residual.ensures.1 c.need.ensures c.in_err-need.was

pub bounds-s-0 : goal.bounds-s-0
bounds-s-0 c = omega (arith, leb-true _ _ (fine _ _ _ _ c.need.ensures c.in_ok-need.was))

pub returns-in_err-kind : goal.returns-in_err-kind
unfolding parse_notice pick
returns-in_err-kind c = rw (fine _ _ _ _ c.need.ensures c.in_ok-need.was, ← c.from.ensures) (notice_kind_stopped _ _ _ _ _ c.from_residual-in_err-kind.ensures.1 c.notice_kind.ensures c.in_err-kind.was)

pub returns-in_err-need-2 : goal.returns-in_err-need-2
unfolding parse_notice pick
returns-in_err-need-2 c = rw (fine _ _ _ _ c.need.ensures c.in_ok-need.was, ← c.from.ensures, ← notice_kind_fine _ _ _ c.notice_kind.ensures c.in_ok-kind.was, some_notice_kind _) (notice_stopped _ _ _ _ _ _ _ c.from_residual-in_err-need-2.ensures.1 c.need-2.ensures c.in_err-need-2.was)

pub two_at-len-requires : goal.two_at-len-requires
two_at-len-requires c = omega (arith, leb-true _ _ (fine _ _ _ _ c.need-2.ensures c.in_ok-need-2.was))

pub returns-in_err-field : goal.returns-in_err-field
unfolding parse_notice pick
returns-in_err-field c = rw (fine _ _ _ _ c.need.ensures c.in_ok-need.was, ← c.from.ensures, ← notice_kind_fine _ _ _ c.notice_kind.ensures c.in_ok-kind.was, some_notice_kind _, fine _ _ _ _ c.need-2.ensures c.in_ok-need-2.was, ← c.two_at-len.ensures.0) (notice_stopped _ _ _ _ _ _ _ c.from_residual-in_err-field.ensures.1 c.field.ensures c.in_err-field.was)

pub returns-in_err-need-3 : goal.returns-in_err-need-3
unfolding parse_notice pick
returns-in_err-need-3 c = rw (fine _ _ _ _ c.need.ensures c.in_ok-need.was, ← c.from.ensures, ← notice_kind_fine _ _ _ c.notice_kind.ensures c.in_ok-kind.was, some_notice_kind _, fine _ _ _ _ c.need-2.ensures c.in_ok-need-2.was, ← c.two_at-len.ensures.0, fine _ _ _ _ c.field.ensures c.in_ok-field.was) (notice_stopped _ _ _ _ _ _ _ c.from_residual-in_err-need-3.ensures.1 c.need-3.ensures c.in_err-need-3.was)

pub returns-in_err-field-2 : goal.returns-in_err-field-2
unfolding parse_notice pick
returns-in_err-field-2 c = rw (fine _ _ _ _ c.need.ensures c.in_ok-need.was, ← c.from.ensures, ← notice_kind_fine _ _ _ c.notice_kind.ensures c.in_ok-kind.was, some_notice_kind _, fine _ _ _ _ c.need-2.ensures c.in_ok-need-2.was, ← c.two_at-len.ensures.0, fine _ _ _ _ c.field.ensures c.in_ok-field.was, fine _ _ _ _ c.need-3.ensures c.in_ok-need-3.was) (notice_stopped _ _ _ _ _ _ _ c.from_residual-in_err-field-2.ensures.1 c.field-2.ensures c.in_err-field-2.was)

pub returns : goal.returns
unfolding parse_notice pick
returns c = rw (fine _ _ _ _ c.need.ensures c.in_ok-need.was, ← c.from.ensures, ← notice_kind_fine _ _ _ c.notice_kind.ensures c.in_ok-kind.was, some_notice_kind _, fine _ _ _ _ c.need-2.ensures c.in_ok-need-2.was, ← c.two_at-len.ensures.0, fine _ _ _ _ c.field.ensures c.in_ok-field.was, fine _ _ _ _ c.need-3.ensures c.in_ok-need-3.was, fine _ _ _ _ c.field-2.ensures c.in_ok-field-2.was) refl
