use borrow.Author.Tests.{eq-eqb, ne_eqb}
use Rattle.octets.specs.Bytes.{pick}
use Rattle.board_mailbox.specs.Asked.{filed_delivery}
use Rattle.board_mailbox.proofs.with_delivery.Goals as goal

pub returns-then-kind-eq0 : goal.returns-then-kind-eq0
unfolding filed_delivery pick
returns-then-kind-eq0 c = rw (eq-eqb c.args.kind 0 c.if-kind-eq0.true)

pub returns : goal.returns
unfolding filed_delivery pick
returns c = rw (ne_eqb c.args.kind 0 c.if-kind-eq0.false)
