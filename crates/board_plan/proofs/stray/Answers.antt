-- `board_plan::stray` meets its contract.
-- Assumes nothing.
use mathlib.Core.Path.{refl}
use Rattle.record.proofs.Reading.{no_send}
use Rattle.board.specs.Planned.{is_stray}
use Rattle.board_plan.proofs.stray.Goals as goal

pub returns-in-Send : goal.returns-in-Send
unfolding is_stray
returns-in-Send c = rw c.in-Send.is refl

pub returns-in-Echo : goal.returns-in-Echo
unfolding is_stray
returns-in-Echo c = rw (no_send _ c.in-Echo.is) refl
