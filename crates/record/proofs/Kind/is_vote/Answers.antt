use mathlib.Core.Path.{refl}
use Rattle.record.proofs.Reading.{no_vote}
use Rattle.record.proofs.Kind.is_vote.Goals as goal

pub returns-in-Send : goal.returns-in-Send
returns-in-Send c = rw (no_vote _ c.in-Send.is) refl

pub returns-in-Vote : goal.returns-in-Vote
returns-in-Vote c = rw c.in-Vote.is refl
