-- `board_mark::again` meets its contract.
-- Assumes nothing.
use mathlib.Core.Path.{refl}
use Rattle.octets.specs.Bytes.{pick}
use Rattle.board.specs.Planned.{is_again}
use Rattle.board_mark.proofs.again.Goals as goal

pub returns-in-Send : goal.returns-in-Send
unfolding is_again pick
returns-in-Send c = rw c.in-Send.is refl

pub returns-in-Echo : goal.returns-in-Echo
unfolding is_again pick
returns-in-Echo c = rw c.in-Echo.is c.has_board.ensures

pub returns-in-Vote : goal.returns-in-Vote
unfolding is_again pick
returns-in-Vote c = rw c.in-Vote.is c.has_board-in-Vote.ensures
