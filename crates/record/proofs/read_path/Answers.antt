use native.Mathlib.Omega.{arith}
use borrow.Author.Tests.{leb-true}
use Rattle.octets.specs.Bytes.{pick}
use Rattle.record.specs.Form.{parse_path}
use Rattle.record.proofs.Reading.{stopped, fine}
use Rattle.record.proofs.read_path.Goals as goal

pub returns-in_err-need : goal.returns-in_err-need
unfolding parse_path pick
returns-in_err-need c = stopped _ _ _ _ _ _ _ c.from_residual.ensures.1 c.need.ensures c.in_err-need.was

pub two_at-nodes-requires : goal.two_at-nodes-requires
two_at-nodes-requires c = omega (arith, leb-true _ _ (fine _ _ _ _ c.need.ensures c.in_ok-need.was))

pub returns-in_err-field : goal.returns-in_err-field
unfolding parse_path pick
returns-in_err-field c = rw (fine _ _ _ _ c.need.ensures c.in_ok-need.was, ← c.two_at-nodes.ensures.0, ← c.most_nodes.ensures.0) (stopped _ _ _ _ _ _ _ c.from_residual-in_err-field.ensures.1 c.field.ensures c.in_err-field.was)

pub need-requires-2 : goal.need-requires-2
need-requires-2 c = (omega arith, omega (arith, c.most_nodes.ensures.1, leb-true _ _ (fine _ _ _ _ c.field.ensures c.in_ok-field.was)))

pub returns-in_err-need-2 : goal.returns-in_err-need-2
unfolding parse_path pick
returns-in_err-need-2 c = rw (fine _ _ _ _ c.need.ensures c.in_ok-need.was, ← c.two_at-nodes.ensures.0, ← c.most_nodes.ensures.0, fine _ _ _ _ c.field.ensures c.in_ok-field.was) (stopped _ _ _ _ _ _ _ c.from_residual-in_err-need-2.ensures.1 c.need-2.ensures c.in_err-need-2.was)

pub read_fragment-requires : goal.read_fragment-requires
read_fragment-requires c = omega (arith, c.most_nodes.ensures.1, leb-true _ _ (fine _ _ _ _ c.field.ensures c.in_ok-field.was))

pub returns : goal.returns
unfolding parse_path pick
returns c = rw (fine _ _ _ _ c.need.ensures c.in_ok-need.was, ← c.two_at-nodes.ensures.0, ← c.most_nodes.ensures.0, fine _ _ _ _ c.field.ensures c.in_ok-field.was, fine _ _ _ _ c.need-2.ensures c.in_ok-need-2.was) (c.read_fragment.ensures)
