-- `board_plan::short` meets its contract.
-- Assumes nothing.
use native.Mathlib.Omega.{arith}
use Rattle.std.proofs.lemmas.Grind.{common_steps}
use Rattle.board.specs.Planned.{is_short}
use Rattle.board_plan.proofs.short.Goals as goal

pub returns-then-out-lt-OUT_BYTES : goal.returns-then-out-lt-OUT_BYTES
unfolding is_short
returns-then-out-lt-OUT_BYTES c = grind (arith, common_steps)

pub returns-else-out-lt-OUT_BYTES : goal.returns-else-out-lt-OUT_BYTES
unfolding is_short
returns-else-out-lt-OUT_BYTES c = grind (arith, common_steps)
