use Rattle.board_mailbox.specs.Asked.{refusal_in}
use Rattle.board_mailbox.proofs.record_refusal.Goals as goal

pub returns-in-Err : goal.returns-in-Err
unfolding refusal_in
returns-in-Err c = rw (← c.plan_record.ensures, c.in-Err.is, c.number.ensures.0)

pub returns-in-Ok : goal.returns-in-Ok
unfolding refusal_in
returns-in-Ok c = rw (← c.plan_record.ensures, c.in-Ok.is)
