use Rattle.state.specs.State.{table_of}
use Rattle.state.proofs.read_table.Goals as goal

pub returns : goal.returns
unfolding table_of
returns c = cc
