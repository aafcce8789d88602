-- `code_encode::lay_column` meets its contract. The loop's invariant: i rooms are done.
-- Assumes nothing.
use Prim.Native.Nat.{◌≤◌}
use lib.ListN.{length, get_or}
use Rattle.code_encode.specs.Patch.{Patch}
use Rattle.code_encode.proofs.lay_column.Given as goal

abbrev pub invariant-loop-i : goal.invariant-loop-i
invariant-loop-i l = (l.i ≤ l.count) × Patch l.at l.i l.s (length l.column) (λ j d. get_or l.column d 0) l.initial.area l.area
