-- `code_encode::gather_any` meets its contract. The loop's invariant: the places before i are drawn.
-- Assumes nothing.
use Prim.Native.Nat.{◌≤◌}
use Rattle.code_encode.specs.Patch.{in_block}
use Rattle.code_encode.proofs.Draws.{Drawing}
use Rattle.code_encode.proofs.gather_any.Given as goal

abbrev pub invariant-loop-i : goal.invariant-loop-i
invariant-loop-i l = (l.a ≤ l.i) × (l.i ≤ l.e) × Drawing l.a (in_block l.message l.k l.from) l.initial.column l.i l.column
