use Rattle.tumbeliko.proofs.tumbeliko_read_block.Goals as goal

pub returns : goal.returns
returns c = rw c.from.ensures (rw c.table.ensures at c.read_block.ensures)
