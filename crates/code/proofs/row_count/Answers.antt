-- `code::row_count` meets its contract.
-- Assumes nothing.
use mathlib.Core.Path.{refl}
use Rattle.code.specs.Block.{rows}
use Rattle.code.proofs.row_count.Goals as goal

pub returns : goal.returns
unfolding rows
returns c = refl
