-- `board_mark::voted_now` meets its contract.
-- Assumes nothing.
use native.Mathlib.Omega.{arith}
use Rattle.std.proofs.lemmas.Grind.{common_steps}
use Rattle.board.specs.Stepped.{voted_now}
use Rattle.board_mark.proofs.voted_now.Goals as goal

pub returns-then-m : goal.returns-then-m
unfolding voted_now
returns-then-m c = grind (arith, common_steps)

pub returns-then-word : goal.returns-then-word
unfolding voted_now
returns-then-word c = grind (arith, common_steps)

pub returns-else-word : goal.returns-else-word
unfolding voted_now
returns-else-word c = grind (arith, common_steps)
