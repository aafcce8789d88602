use Rattle.board_mailbox.specs.Emptied.{only_number, emptied}
use Rattle.board_mailbox.proofs.Walk.{Walk}
use Rattle.board_mailbox.proofs.hand_all.Given as goal

abbrev pub invariant-loop-i : goal.invariant-loop-i
invariant-loop-i l = Walk l.mailbox (emptied (only_number 0) l.initial.state l.initial.answers l.initial.echo l.initial.vote l.initial.delivery) l.count l.at l.i (emptied l.m l.state l.answers l.echo l.vote l.delivery)
