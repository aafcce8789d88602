-- `board_mark::settle` meets its contract.
-- Assumes nothing.
use native.Mathlib.Omega.{arith}
use Rattle.std.proofs.lemmas.Grind.{common_steps}
use Rattle.board.specs.Stepped.{settled_to, with_flags}
use Rattle.board_mark.proofs.settle.Goals as goal

pub returns-then-m : goal.returns-then-m
unfolding settled_to with_flags
returns-then-m c = grind (arith, common_steps)

pub returns-else-m : goal.returns-else-m
unfolding settled_to with_flags
returns-else-m c = grind (arith, common_steps)
