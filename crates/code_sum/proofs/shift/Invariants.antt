-- `code_sum::shift` meets its contract. The loop's invariant: i bytes stand at the front.
-- Assumes nothing.
use mathlib.Core.Path.{◌≡◌}
use mathlib.Core.List.{List}
use Prim.Native.Nat.{ℕ, ◌+◌, ◌≤◌}
use lib.ListN.{get_or}
use Rattle.octets.proofs.Walk.{Walked}
use Rattle.code_sum.proofs.shift.Given as goal

abbrev New : ℕ → List ℕ → ℕ → ℕ → Type 0
New d old i v = v ≡ get_or old (d + i) 0

abbrev pub invariant-loop-i : goal.invariant-loop-i
invariant-loop-i l = (l.i ≤ l.n) × Walked (New l.d l.initial.sum) l.initial.sum l.i l.sum
