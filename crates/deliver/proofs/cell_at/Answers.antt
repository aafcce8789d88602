-- `deliver::cell_at` meets its contract.
-- Assumes nothing.
use Rattle.std.proofs.Common.{rules}
use Rattle.code_sum.specs.Sums.{cell}
use Rattle.deliver.proofs.cell_at.Goals as goal

pub returns : goal.returns
unfolding cell
returns c = search rules
