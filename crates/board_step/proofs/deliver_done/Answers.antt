use Rattle.board_step.proofs.deliver_done.Goals as goal

pub deliver_due-requires : goal.deliver_due-requires
deliver_due-requires c = rw (c.read_table-b.ensures, c.read_marks-m.ensures) c.requires.1

pub returns : goal.returns
returns c = rw (← c.read_table-b.ensures, ← c.read_marks-m.ensures) c.deliver_due.ensures
