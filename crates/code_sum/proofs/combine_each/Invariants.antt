-- `code_sum::combine_each` meets its contract. The loop's invariant: j fragments are added.
-- Assumes nothing.
use mathlib.Core.Path.{◌≡◌}
use Prim.Native.Nat.{ℕ, ◌+◌, ◌<◌, ◌≤◌}
use lib.ListN.{length, get_or}
use Rattle.code_sum.specs.Sums.{weighed}
use Rattle.code_sum.proofs.combine_each.Given as goal

abbrev pub invariant-loop-j : goal.invariant-loop-j
invariant-loop-j l = (l.j ≤ length l.points) × (length l.sum ≡ length l.initial.sum) × ((i : ℕ) → i < l.n → get_or l.sum i 0 ≡ weighed l.area l.s l.points l.ws (l.c + i) l.j)
