use Rattle.notice_step.proofs.Sorts.{no_echo}
use Rattle.octets.specs.Bytes.{pick}
use Rattle.notice_step.proofs.place.Goals as goal

pub returns-in-Echo : goal.returns-in-Echo
unfolding pick
returns-in-Echo c = rw c.in-Echo.is

pub returns-in-Send : goal.returns-in-Send
unfolding pick
returns-in-Send c = rw (no_echo _ c.in-Send.is)
