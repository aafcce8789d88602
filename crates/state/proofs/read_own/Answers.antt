use Rattle.state.specs.State.{own_of}
use Rattle.state.proofs.read_own.Goals as goal

pub returns : goal.returns
unfolding own_of
returns c = c.from.ensures
