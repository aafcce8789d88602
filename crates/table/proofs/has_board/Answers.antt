use Rattle.octets.specs.Sets.{has}
use mathlib.Core.Path.{refl}
use Rattle.table.proofs.has_board.Goals as goal

pub returns : goal.returns
unfolding has
returns c = refl
