-- `code_encode::encode_rows` meets its contract. The loop's invariant: m columns are summed up, and each board's power is the m-th.
-- Assumes nothing.
use Prim.Native.Nat.{◌≤◌}
use lib.ListN.{length}
use Rattle.code_encode.proofs.Columns.{Summed}
use Rattle.code_encode.proofs.encode_rows.Given as goal

abbrev pub invariant-loop-m : goal.invariant-loop-m
invariant-loop-m l = (l.m ≤ l.k) × Summed l.k l.message l.first (length l.fn.powers) l.at l.s l.c (length l.fn.column) l.initial.area l.m l.powers l.area
