-- `deliver::sum_of` meets its contract.
-- Assumes nothing.
use Rattle.code_sum.specs.Sums.{total}
use Rattle.deliver.proofs.sum_of.Goals as goal
use Rattle.std.proofs.Common.{arith, rules}
use Rattle.std.proofs.lemmas.Grind.{common_steps}

pub loop-t-init : goal.loop-t-init
unfolding total
loop-t-init c = search rules

pub loop-t-preserved : goal.loop-t-preserved
unfolding total
loop-t-preserved c = grind (arith, common_steps)
