-- `code_sum::add_picked` meets its contract. The loop's invariant: those of the first j fragments are added.
-- Assumes nothing.
use mathlib.Core.Path.{◌≡◌}
use Prim.Native.Nat.{ℕ, ◌+◌, ◌<◌, ◌≤◌}
use lib.ListN.{length, get_or}
use Rattle.field.specs.Field.{add}
use Rattle.code_sum.specs.Blocks.{picked}
use Rattle.code_sum.proofs.add_picked.Given as goal

abbrev pub invariant-loop-j : goal.invariant-loop-j
invariant-loop-j l = (l.j ≤ length l.points) × ((i : ℕ) → i < length l.initial.sum → get_or l.sum i 0 ≡ add (get_or l.initial.sum i 0) (picked l.area l.s l.points l.ws l.b (l.c + i) l.j))
