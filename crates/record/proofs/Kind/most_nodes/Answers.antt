use mathlib.Core.Path.{refl}
use native.Mathlib.Omega.{arith}
use Rattle.octets.specs.Bytes.{pick}
use Rattle.record.specs.Form.{nodes_most}
use Rattle.record.proofs.Reading.{no_vote}
use Rattle.record.proofs.Kind.most_nodes.Goals as goal

pub returns-in-Send : goal.returns-in-Send
unfolding nodes_most pick
returns-in-Send c = (rw (no_vote _ c.in-Send.is) refl, omega arith)

pub returns-in-Vote : goal.returns-in-Vote
unfolding nodes_most pick
returns-in-Vote c = (rw c.in-Vote.is refl, omega arith)
