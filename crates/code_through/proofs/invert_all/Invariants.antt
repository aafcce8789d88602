-- `code_through::invert_all` meets its contract. The loop's invariant: j bytes are inverted.
-- Assumes nothing.
use mathlib.Core.Path.{◌≡◌}
use Prim.Native.Nat.{◌≤◌, ◌<◌}
use lib.ListN.{length, get_or}
use Rattle.field.specs.Field.{mul}
use Rattle.octets.proofs.Walk.{Walked}
use Rattle.code_through.proofs.invert_all.Given as goal

abbrev pub invariant-loop-x : goal.invariant-loop-x
invariant-loop-x l = (l.x-index ≤ length l.initial.xs) × Walked (λ i v. 0 < get_or l.initial.xs i 0 → mul (get_or l.initial.xs i 0) v ≡ 1) l.initial.xs l.x-index l.xs
