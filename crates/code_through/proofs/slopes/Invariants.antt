-- `code_through::slopes` meets its contract. The loop's invariant: the coefficients above i are taken in.
-- Assumes nothing.
use Prim.Native.Nat.{suc, ◌≤◌}
use lib.ListN.{length}
use Rattle.code_through.proofs.Weights.{Sloped}
use Rattle.code_through.proofs.slopes.Given as goal

abbrev pub invariant-loop-i : goal.invariant-loop-i
invariant-loop-i l = (l.i ≤ length l.points) × Sloped l.points l.m (suc l.i) l.low l.ds
