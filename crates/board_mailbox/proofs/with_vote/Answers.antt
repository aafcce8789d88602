use borrow.Author.Tests.{eq-eqb, ne_eqb}
use Rattle.octets.specs.Bytes.{pick}
use Rattle.board_mailbox.specs.Asked.{filed_vote}
use Rattle.board_mailbox.proofs.with_vote.Goals as goal

pub returns-then-len-eq0 : goal.returns-then-len-eq0
unfolding filed_vote pick
returns-then-len-eq0 c = rw (eq-eqb c.args.len 0 c.if-len-eq0.true)

pub returns : goal.returns
unfolding filed_vote pick
returns c = rw (ne_eqb c.args.len 0 c.if-len-eq0.false)
