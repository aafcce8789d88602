-- `code_through::deepen` meets its contract. The loop's invariant: j points are done.
-- Assumes nothing.
use mathlib.Core.Path.{◌≡◌}
use Prim.Native.Nat.{◌≤◌}
use lib.ListN.{length, get_or}
use Rattle.field.specs.Field.{add, mul}
use Rattle.octets.proofs.Walk.{Walked}
use Rattle.code_through.proofs.deepen.Given as goal

abbrev pub invariant-loop-j : goal.invariant-loop-j
invariant-loop-j l = (l.j ≤ length l.points) × Walked (λ i v. v ≡ add l.top (mul (get_or l.points i 0) (get_or l.initial.low i 0))) l.initial.low l.j l.low × Walked (λ i v. v ≡ add (add l.top (mul (get_or l.points i 0) (get_or l.initial.low i 0))) (mul (get_or l.points i 0) (get_or l.initial.ds i 0))) l.initial.ds l.j l.ds
