use Rattle.octets.specs.Bytes.{pick}
use Rattle.octets.proofs.Picks.{picks}
use Rattle.table.proofs.Within.{within}
use Rattle.code_calls.specs.Reading.{read_refusal}
use Rattle.code_calls.proofs.may_read.Goals as goal

pub returns-then-message-b : goal.returns-then-message-b
unfolding read_refusal pick
returns-then-message-b c = rw c.args.b.within (search picks)

pub can_read-requires : goal.can_read-requires
can_read-requires c =
    let f = c.fragments_needed.ensures in (f.1, f.3, (within _ c.args.b.within).short)

pub returns-then-not-can_read : goal.returns-then-not-can_read
unfolding read_refusal pick
returns-then-not-can_read c = rw (c.args.b.within, ← c.fragments_needed.ensures.0, ← c.can_read.ensures) (search picks)

pub returns : goal.returns
unfolding read_refusal pick
returns c = rw (c.args.b.within, ← c.fragments_needed.ensures.0, ← c.can_read.ensures) (search picks)
