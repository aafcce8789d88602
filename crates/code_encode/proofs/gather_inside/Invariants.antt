-- `code_encode::gather_inside` meets its contract. The loop's invariant: the places before i are drawn, and `at` is where the next byte stands in the block.
-- Assumes nothing.
use mathlib.Core.Path.{◌≡◌}
use Prim.Native.Nat.{◌+◌, ◌*◌, ◌≤◌}
use Rattle.code_encode.specs.Patch.{in_block}
use Rattle.code_encode.proofs.Draws.{Drawing}
use Rattle.code_encode.proofs.gather_inside.Given as goal

abbrev pub invariant-loop-i : goal.invariant-loop-i
invariant-loop-i l = (l.a ≤ l.i) × (l.i ≤ l.e) × (l.at ≡ l.from + l.i * l.k) × Drawing l.a (in_block l.message l.k l.from) l.initial.column l.i l.column
