-- `board_plan::plan_record` meets its contract.
-- Assumes nothing.
use mathlib.Core.Path.{sym, ◌∙◌}
use Rattle.std.proofs.lemmas.Result.{err_from_is_err_and}
use Rattle.octets.specs.Bytes.{pick}
use Rattle.board.specs.Planned.{by_form}
use Rattle.board_plan.proofs.plan_record.Goals as goal

pub invariant_of-b : goal.invariant_of-b
invariant_of-b c = record { within = rw c.read_table.ensures c.requires.1 }

pub returns-then-not-is_board : goal.returns-then-not-is_board
unfolding pick
returns-then-not-is_board c = rw (← c.read_table.ensures, ← c.is_board.ensures, c.if-not-is_board.true, c.from.ensures)

pub returns-in_err-o : goal.returns-in_err-o
unfolding pick by_form
returns-in_err-o c = let p = err_from_is_err_and c.from_residual.result c.from_residual.ensures.1 in rw (p.1, p.2, ← c.read_table.ensures, ← c.is_board.ensures, c.if-not-is_board.false, ← c.read_record.ensures, c.in_err-o.was)

pub by_marks-requires : goal.by_marks-requires
by_marks-requires c = sym c.is_board.ensures ∙ c.if-not-is_board.false

pub returns : goal.returns
unfolding pick by_form
returns c = rw (← c.read_table.ensures, ← c.is_board.ensures, c.if-not-is_board.false, ← c.read_marks.ensures, ← c.read_record.ensures, c.in_ok-o.was) c.by_marks.ensures
