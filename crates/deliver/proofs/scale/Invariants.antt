-- `deliver::scale` meets its contract. The loop's invariant: j bytes are scaled.
-- Assumes nothing.
use mathlib.Core.Path.{◌≡◌}
use Prim.Native.Nat.{◌≤◌}
use lib.ListN.{length, get_or}
use Rattle.field.specs.Field.{mul}
use Rattle.octets.proofs.Walk.{Walked}
use Rattle.code_sum.specs.Sums.{cell}
use Rattle.deliver.proofs.scale.Given as goal

abbrev pub invariant-loop-j : goal.invariant-loop-j
invariant-loop-j l = (l.j ≤ length l.kept.points.now) × Walked (λ i v. v ≡ mul (get_or l.ds i 0) (cell l.kept.area.now l.kept.s l.c (get_or l.kept.points.now i 0))) l.initial.es l.j l.es
