use Rattle.octets.specs.Bytes.{pick}
use Rattle.record.proofs.Reading.{no_send}
use Rattle.board_step.specs.Step.{place_of}
use Rattle.board_step.proofs.place.Goals as goal

pub returns-in-Send : goal.returns-in-Send
unfolding place_of pick
returns-in-Send c = rw c.in-Send.is c.read_own.ensures

pub returns-in-Echo : goal.returns-in-Echo
unfolding place_of pick
returns-in-Echo c = rw (no_send _ c.in-Echo.is)
