-- `code_rebuild::write_columns` meets its contract. The loop's invariant: the columns from i on are written.
-- Assumes nothing.
use Prim.Native.Nat.{suc, ◌≤◌}
use lib.ListN.{length}
use Rattle.code_through.specs.Sums.{Weights}
use Rattle.code_through.proofs.Columns.{Filled}
use Rattle.code_rebuild.proofs.write_columns.Given as goal

abbrev pub invariant-loop-i : goal.invariant-loop-i
invariant-loop-i l = (l.i ≤ length l.points) × Weights l.points l.m l.ds (suc l.i) l.ws × Filled l.area l.s l.points l.m l.ds l.count l.i l.initial.out l.out
