-- `deliver::sum_of` meets its contract. The loop's invariant: v is the sum of the bytes so far.
-- Assumes nothing.
use mathlib.Core.Path.{◌≡◌}
use lib.ListN.{get_or}
use Rattle.code_sum.specs.Sums.{total}
use Rattle.deliver.proofs.sum_of.Given as goal

abbrev pub invariant-loop-t : goal.invariant-loop-t
invariant-loop-t l = l.v.0 ≡ total (λ i. get_or l.ts i 0) l.t-index
