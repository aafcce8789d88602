-- `field::double_all` meets its contract. The loop's invariant: the bytes so far are done.
-- Assumes nothing.
use mathlib.Core.Path.{◌≡◌}
use mathlib.Core.List.{List}
use Prim.Native.Nat.{ℕ}
use lib.ListN.{get_or}
use Rattle.field.specs.Field.{double}
use Rattle.octets.proofs.Walk.{Walked}
use Rattle.field.proofs.double_all.Given as goal

abbrev New : List ℕ → ℕ → ℕ → Type 0
New old i v = v ≡ double (get_or old i 0)

abbrev pub invariant-loop-x : goal.invariant-loop-x
invariant-loop-x l = Walked (New l.initial.s) l.initial.s l.x-index l.s
