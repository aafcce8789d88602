use mathlib.Core.Path.{refl}
use borrow.Author.Tests.{le-leb, lt-leb}
use Rattle.octets.specs.Bytes.{pick}
use Rattle.record.specs.Form.{fragment_ok}
use Rattle.record.proofs.Reading.{no_vote}
use Rattle.record.proofs.Kind.takes_fragment.Goals as goal

pub returns-then-len-ge1 : goal.returns-then-len-ge1
unfolding fragment_ok pick
returns-then-len-ge1 c = rw (no_vote _ c.in-Send.is, le-leb 1 c.args.len c.if-len-ge1.true) refl

pub returns-else-len-ge1 : goal.returns-else-len-ge1
unfolding fragment_ok pick
returns-else-len-ge1 c = rw (no_vote _ c.in-Send.is, lt-leb 1 c.args.len c.if-len-ge1.false) refl

pub returns-in-Vote : goal.returns-in-Vote
unfolding fragment_ok pick
returns-in-Vote c = rw c.in-Vote.is refl
