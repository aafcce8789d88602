use mathlib.Core.Path.{◌∙◌}
use Rattle.octets.proofs.Sames.{same_pointwise}
use Rattle.naming.proofs.Kept.names.Goals as goal

pub returns-then-has_board : goal.returns-then-has_board
returns-then-has_board c = rw (← c.has_board.ensures, c.if-has_board.true, ← c.value.ensures) (c.eq.ensures ∙ same_pointwise _ _)
