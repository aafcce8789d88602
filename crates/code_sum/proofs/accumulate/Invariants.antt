-- `code_sum::accumulate` meets its contract. The loop's invariant: c bytes are done.
-- Assumes nothing.
use mathlib.Core.Path.{◌≡◌}
use mathlib.Core.List.{List}
use Prim.Native.Nat.{ℕ, ◌≤◌}
use lib.ListN.{length, get_or}
use Rattle.field.specs.Field.{add, mul}
use Rattle.octets.proofs.Walk.{Walked}
use Rattle.code_sum.proofs.accumulate.Given as goal

abbrev New : ℕ → List ℕ → List ℕ → ℕ → ℕ → Type 0
New w src old c v = v ≡ add (get_or old c 0) (mul w (get_or src c 0))

abbrev pub invariant-loop-c : goal.invariant-loop-c
invariant-loop-c l = (l.c ≤ length l.src) × Walked (New l.w l.src l.initial.sum) l.initial.sum l.c l.sum
