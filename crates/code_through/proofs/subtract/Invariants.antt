-- `code_through::subtract` meets its contract. The loop's invariant: j differences are written.
-- Assumes nothing.
use mathlib.Core.Path.{◌≡◌}
use Prim.Native.Nat.{◌≤◌}
use lib.ListN.{length, get_or}
use Rattle.field.specs.Field.{add}
use Rattle.octets.proofs.Walk.{Walked}
use Rattle.code_through.proofs.subtract.Given as goal

abbrev pub invariant-loop-j : goal.invariant-loop-j
invariant-loop-j l = (l.j ≤ length l.points) × Walked (λ i v. v ≡ add l.z (get_or l.points i 0)) l.initial.out l.j l.out
