-- `code_through::advance` meets its contract. The loop's invariant: j weights are done.
-- Assumes nothing.
use mathlib.Core.Path.{◌≡◌}
use mathlib.Core.List.{List}
use Prim.Native.Nat.{ℕ, ◌≤◌}
use lib.ListN.{length, get_or}
use Rattle.field.specs.Field.{add, mul}
use Rattle.octets.proofs.Walk.{Walked}
use Rattle.code_through.proofs.advance.Given as goal

abbrev New : List ℕ → List ℕ → ℕ → List ℕ → ℕ → ℕ → Type 0
New xs ds top old j v = v ≡ add (mul (get_or ds j 0) top) (mul (get_or xs j 0) (get_or old j 0))

abbrev pub invariant-loop-j : goal.invariant-loop-j
invariant-loop-j l = (l.j ≤ length l.points) × Walked (New l.points l.ds l.top l.initial.ws) l.initial.ws l.j l.ws
