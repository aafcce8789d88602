use native.Mathlib.Omega.{arith}
use borrow.Author.Tests.{leb-true}
use Rattle.octets.specs.Bytes.{pick}
use Rattle.record.specs.Form.{parse}
use Rattle.record.proofs.Reading.{stopped, fine, some_kind, kind_stopped, kind_fine}
use Rattle.record.proofs.read_record.Goals as goal

pub returns-in_err-need : goal.returns-in_err-need
unfolding parse pick
returns-in_err-need c = stopped _ _ _ _ _ _ _ c.from_residual.ensures.1 c.need.ensures c.in_err-need.was

pub bounds-s-0 : goal.bounds-s-0
bounds-s-0 c = omega (arith, leb-true _ _ (fine _ _ _ _ c.need.ensures c.in_ok-need.was))

pub returns-in_err-kind : goal.returns-in_err-kind
unfolding parse pick
returns-in_err-kind c = rw (fine _ _ _ _ c.need.ensures c.in_ok-need.was) (kind_stopped _ _ _ _ _ c.from_residual-in_err-kind.ensures.1 c.try_from.ensures c.in_err-kind.was)

pub returns : goal.returns
unfolding parse pick
returns c = rw (fine _ _ _ _ c.need.ensures c.in_ok-need.was, ← kind_fine _ _ _ c.try_from.ensures c.in_ok-kind.was, some_kind _) (c.read_root.ensures)
