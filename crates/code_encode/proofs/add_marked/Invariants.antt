-- `code_encode::add_marked` meets its contract. The loop's invariant: i rooms are done.
-- Assumes nothing.
use Prim.Native.Nat.{◌≤◌}
use lib.ListN.{length}
use Rattle.code_encode.specs.Patch.{Patch, plus_bit}
use Rattle.code_encode.proofs.add_marked.Given as goal

abbrev pub invariant-loop-i : goal.invariant-loop-i
invariant-loop-i l = (l.i ≤ length l.powers) × Patch l.at l.i l.s (length l.column) (plus_bit l.at l.s l.b l.powers l.column l.initial.area) l.initial.area l.area
