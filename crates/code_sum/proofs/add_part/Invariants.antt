-- `code_sum::add_part` meets its contract. The loop's invariant: i bytes are done.
-- Assumes nothing.
use mathlib.Core.Path.{◌≡◌}
use mathlib.Core.List.{List}
use Prim.Native.Nat.{ℕ, ◌≤◌}
use lib.ListN.{length, get_or}
use Rattle.field.specs.Field.{add}
use Rattle.octets.proofs.Walk.{Walked}
use Rattle.code_sum.proofs.add_part.Given as goal

abbrev New : List ℕ → List ℕ → ℕ → ℕ → Type 0
New src old i v = v ≡ add (get_or old i 0) (get_or src i 0)

abbrev pub invariant-loop-i : goal.invariant-loop-i
invariant-loop-i l = (l.i ≤ length l.src) × Walked (New l.src l.initial.sum) l.initial.sum l.i l.sum
