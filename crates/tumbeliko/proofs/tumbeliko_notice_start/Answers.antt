use Rattle.tumbeliko.proofs.tumbeliko_notice_start.Goals as goal

pub returns : goal.returns
returns c = rw c.number.ensures (rw c.table.ensures at c.start.ensures)
