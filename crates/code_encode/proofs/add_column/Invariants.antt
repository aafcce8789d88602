-- `code_encode::add_column` meets its contract. The loop's invariant: before bit b, what each byte still lacks is the board's power / 2^b times the column
-- as it is then.
-- Assumes nothing.
use Prim.Native.Nat.{ℕ, ◌-◌, ◌<◌}
use lib.ListN.{length, get_or}
use Rattle.code_encode.specs.Patch.{Patch}
use Rattle.code_encode.proofs.Bitwise.{owing}
use Rattle.code_encode.proofs.add_column.Given as goal

abbrev pub invariant-loop-b : goal.invariant-loop-b
invariant-loop-b l = (l.b < 8) × ((d : ℕ) → d < length l.initial.column → get_or l.column d 0 < 256) × Patch l.at (length l.powers) l.s (length l.initial.column) (owing l.at l.s l.powers l.initial.column l.initial.area l.b l.column) l.initial.area l.area

abbrev pub decreases-loop-b : goal.decreases-loop-b
decreases-loop-b l = 8 - l.b
