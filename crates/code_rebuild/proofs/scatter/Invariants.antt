-- `code_rebuild::scatter` meets its contract. The loop's invariant: i bytes are written.
-- Assumes nothing.
use Prim.Native.Nat.{◌≤◌}
use lib.ListN.{length}
use Rattle.code_through.specs.Sums.{Scattered}
use Rattle.code_rebuild.proofs.scatter.Given as goal

abbrev pub invariant-loop-i : goal.invariant-loop-i
invariant-loop-i l = (l.i ≤ length l.src) × Scattered l.src l.k l.m l.c l.i l.initial.out l.out
