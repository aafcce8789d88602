-- `code_encode::raise_powers` meets its contract. The loop's invariant: i powers are raised.
-- Assumes nothing.
use mathlib.Core.Path.{◌≡◌}
use Prim.Native.Nat.{suc, ◌+◌, ◌≤◌}
use lib.ListN.{length, get_or}
use Rattle.field.specs.Field.{mul}
use Rattle.octets.proofs.Walk.{Walked}
use Rattle.code_encode.proofs.raise_powers.Given as goal

abbrev pub invariant-loop-i : goal.invariant-loop-i
invariant-loop-i l = (l.i ≤ length l.initial.powers) × Walked (λ j v. v ≡ mul (suc (l.first + j)) (get_or l.initial.powers j 0)) l.initial.powers l.i l.powers
