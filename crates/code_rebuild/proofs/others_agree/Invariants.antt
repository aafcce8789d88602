-- `code_rebuild::others_agree` meets its contract. The loop's invariant: the fragments marked before i agree.
-- Assumes nothing.
use Prim.Native.Nat.{◌≤◌}
use lib.ListN.{length}
use Rattle.code_through.proofs.Others.{Good}
use Rattle.code_rebuild.proofs.others_agree.Given as goal

abbrev pub invariant-loop-i : goal.invariant-loop-i
invariant-loop-i l = (length l.points ≤ l.i) × (l.i ≤ length l.marked) × Good l.area l.s l.points l.m l.ds l.marked l.count l.i
