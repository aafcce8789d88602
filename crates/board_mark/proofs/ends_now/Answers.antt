-- `board_mark::ends_now` meets its contract.
-- Assumes nothing.
use native.Mathlib.Omega.{arith}
use Rattle.std.proofs.lemmas.Grind.{common_steps}
use Rattle.board.specs.Stepped.{ends_now}
use Rattle.board_mark.proofs.ends_now.Goals as goal

pub returns-then-is_won : goal.returns-then-is_won
unfolding ends_now
returns-then-is_won c = grind (arith, common_steps)

pub returns-else-is_won : goal.returns-else-is_won
unfolding ends_now
returns-else-is_won c = grind (arith, common_steps)
