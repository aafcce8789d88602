-- `code_rebuild::write_column` meets its contract. The loop's invariant: the column is written for c rows.
-- Assumes nothing.
use Prim.Native.Nat.{◌-◌, ◌≤◌}
use Rattle.code_through.specs.Sums.{Column}
use Rattle.code_rebuild.proofs.write_column.Given as goal

abbrev pub invariant-loop-c : goal.invariant-loop-c
invariant-loop-c l = (l.c ≤ l.count) × Column l.area l.s l.points l.ws l.k l.m l.c l.initial.out l.out

abbrev pub decreases-loop-c : goal.decreases-loop-c
decreases-loop-c l = l.count - l.c
