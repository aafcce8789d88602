-- `board_mark::mark` meets its contract.
-- Assumes nothing.
use Rattle.octets.specs.Bytes.{pick}
use Rattle.octets.proofs.Picks.{or_true, or_false}
use Rattle.board.specs.Stepped.{marked}
use Rattle.board_mark.proofs.mark.Goals as goal

pub returns-in-Send : goal.returns-in-Send
unfolding marked pick
returns-in-Send c = rw (c.in-Send.is, or_true c.args.m.acquired)

pub returns-in-Echo : goal.returns-in-Echo
unfolding marked pick
returns-in-Echo c = rw (c.in-Echo.is, c.joined.ensures, c.joined-in-Echo.ensures, or_false c.args.m.acquired)

pub returns-in-Vote : goal.returns-in-Vote
unfolding marked pick
returns-in-Vote c = rw (c.in-Vote.is, c.joined-in-Vote.ensures, or_false c.args.m.acquired)
