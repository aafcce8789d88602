use mathlib.Core.Path.{refl}
use Rattle.record.proofs.Reading.{no_send}
use Rattle.record.proofs.Kind.is_send.Goals as goal

pub returns-in-Send : goal.returns-in-Send
returns-in-Send c = rw c.in-Send.is refl

pub returns-in-Echo : goal.returns-in-Echo
returns-in-Echo c = rw (no_send _ c.in-Echo.is) refl
