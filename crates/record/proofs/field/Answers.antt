use Rattle.octets.specs.Bytes.{pick}
use Rattle.record.proofs.field.Goals as goal

pub returns-then-ok : goal.returns-then-ok
unfolding pick
returns-then-ok c = rw c.if-ok.true

pub returns : goal.returns
unfolding pick
returns c = rw c.if-ok.false
