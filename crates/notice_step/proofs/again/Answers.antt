use Rattle.octets.specs.Bytes.{pick}
use Rattle.notice_step.specs.Planned.{heard_again}
use Rattle.notice_step.proofs.again.Goals as goal

pub returns-in-Send : goal.returns-in-Send
unfolding heard_again pick
returns-in-Send c = rw c.in-Send.is

pub returns-in-Echo : goal.returns-in-Echo
unfolding heard_again pick
returns-in-Echo c = rw c.in-Echo.is c.has_board.ensures

pub returns-in-Vote : goal.returns-in-Vote
unfolding heard_again pick
returns-in-Vote c = rw c.in-Vote.is c.has_board-in-Vote.ensures
