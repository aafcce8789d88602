-- `code_sum::sum_up` meets its contract. The loop's invariant: the bits from b on are added up.
-- Assumes nothing.
use mathlib.Core.Path.{◌≡◌}
use Prim.Native.Nat.{ℕ, ◌+◌, ◌<◌, ◌≤◌}
use lib.ListN.{length, get_or}
use Rattle.code_sum.proofs.Bitwise.{upper}
use Rattle.code_sum.proofs.sum_up.Given as goal

abbrev pub invariant-loop-b : goal.invariant-loop-b
invariant-loop-b l = (l.b ≤ 8) × ((i : ℕ) → i < length l.initial.sum → get_or l.sum i 0 ≡ upper l.area l.s l.points l.ws l.b (l.c + i) (length l.points))
