use mathlib.Core.Path.{ap}
use Rattle.state.specs.declared.Marks.{Marks}
use Rattle.board_step.proofs.is_done.Goals as goal

pub returns : goal.returns
returns c = ap (λ (m : Marks). m.done) c.read_marks-m.ensures
