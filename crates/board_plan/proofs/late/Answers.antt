-- `board_plan::late` meets its contract.
-- Assumes nothing.
use mathlib.Core.Path.{refl, sym}
use Rattle.octets.proofs.Picks.{or_false}
use Rattle.record.proofs.Reading.{no_send}
use Rattle.board.specs.Planned.{is_late}
use Rattle.board_plan.proofs.late.Goals as goal

pub returns-then-m : goal.returns-then-m
unfolding is_late
returns-then-m c = rw (c.in-Send.is, c.if-m.true) refl

pub returns-else-m : goal.returns-else-m
unfolding is_late
returns-else-m c = rw (c.in-Send.is, c.if-m.false) refl

pub returns-in-Echo : goal.returns-in-Echo
unfolding is_late
returns-in-Echo c = rw (no_send _ c.in-Echo.is) (sym (or_false c.args.m.done))
