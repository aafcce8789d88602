use Rattle.state.specs.State.{marks_of}
use Rattle.state.proofs.read_marks.Goals as goal

pub returns : goal.returns
unfolding marks_of
returns c = cc
