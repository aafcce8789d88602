-- `board_plan::by_marks` meets its contract.
-- Assumes nothing.
use native.Mathlib.Omega.{arith}
use borrow.Author.Tests.{lt-ltb, le-ltb}
use Rattle.octets.specs.Bytes.{pick}
use Rattle.table.proofs.Within.{within, board_number}
use Rattle.board.specs.Planned.{by_marks}
use Rattle.board_plan.proofs.by_marks.Goals as goal

pub returns-then-stray : goal.returns-then-stray
unfolding by_marks pick
returns-then-stray c = rw (← c.stray.ensures, c.if-stray.true, c.from.ensures)

pub returns-then-fragment_most-o : goal.returns-then-fragment_most-o
unfolding by_marks pick
returns-then-fragment_most-o c = rw (← c.stray.ensures, c.if-stray.false, ← c.fragment_most.ensures.0, lt-ltb c.fragment_most.result c.args.o.len c.if-fragment_most-o.true, c.from-then-fragment_most-o.ensures)

pub returns-then-late : goal.returns-then-late
unfolding by_marks pick
returns-then-late c = rw (← c.stray.ensures, c.if-stray.false, ← c.fragment_most.ensures.0, le-ltb c.fragment_most.result c.args.o.len c.if-fragment_most-o.false, ← c.late.ensures, c.if-late.true, c.from-then-late.ensures)

pub overflow_sub-from : goal.overflow_sub-from
overflow_sub-from c = let i = board_number _ _ c.requires in omega arith

pub again-requires : goal.again-requires
again-requires c = let w = within _ c.args.b.within in let i = board_number _ _ c.requires in omega arith

pub returns-then-again : goal.returns-then-again
unfolding by_marks pick
returns-then-again c = rw (← c.stray.ensures, c.if-stray.false, ← c.fragment_most.ensures.0, le-ltb c.fragment_most.result c.args.o.len c.if-fragment_most-o.false, ← c.late.ensures, c.if-late.false, ← c.again.ensures, c.if-again.true, c.from-then-again.ensures)

pub returns : goal.returns
unfolding by_marks pick
returns c = rw (← c.stray.ensures, c.if-stray.false, ← c.fragment_most.ensures.0, le-ltb c.fragment_most.result c.args.o.len c.if-fragment_most-o.false, ← c.late.ensures, c.if-late.false, ← c.again.ensures, c.if-again.false)
