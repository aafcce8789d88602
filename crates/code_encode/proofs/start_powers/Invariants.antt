-- `code_encode::start_powers` meets its contract. The loop's invariant: i powers are set.
-- Assumes nothing.
use mathlib.Core.Path.{◌≡◌}
use Prim.Native.Nat.{suc, ◌+◌, ◌≤◌}
use lib.ListN.{length}
use Rattle.octets.proofs.Walk.{Walked}
use Rattle.code_encode.proofs.start_powers.Given as goal

abbrev pub invariant-loop-i : goal.invariant-loop-i
invariant-loop-i l = (l.i ≤ length l.initial.powers) × Walked (λ j v. v ≡ suc (l.first + j)) l.initial.powers l.i l.powers
