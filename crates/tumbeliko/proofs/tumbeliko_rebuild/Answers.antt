use Rattle.tumbeliko.proofs.tumbeliko_rebuild.Goals as goal

pub returns : goal.returns
returns c = rw c.from.ensures (rw c.table.ensures at c.rebuild.ensures)
