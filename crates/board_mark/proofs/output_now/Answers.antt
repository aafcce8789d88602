-- `board_mark::output_now` meets its contract.
-- Assumes nothing.
use native.Mathlib.Omega.{arith}
use Rattle.std.proofs.lemmas.Grind.{common_steps}
use Rattle.board.specs.Stepped.{output_now}
use Rattle.board_mark.proofs.output_now.Goals as goal

pub returns-then-m : goal.returns-then-m
unfolding output_now
returns-then-m c = grind (arith, common_steps)

pub returns-then-voted : goal.returns-then-voted
unfolding output_now
returns-then-voted c = grind (arith, common_steps)

pub returns-else-voted : goal.returns-else-voted
unfolding output_now
returns-else-voted c = grind (arith, common_steps)
