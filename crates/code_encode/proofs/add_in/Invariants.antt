-- `code_encode::add_in` meets its contract. The loop's invariant: d bytes are written.
-- Assumes nothing.
use Prim.Native.Nat.{◌+◌, ◌≤◌}
use lib.ListN.{length, get_or}
use Rattle.field.specs.Field.{add}
use Rattle.code_encode.specs.Patch.{Filled}
use Rattle.code_encode.proofs.add_in.Given as goal

abbrev pub invariant-loop-d : goal.invariant-loop-d
invariant-loop-d l = (l.d ≤ length l.src) × Filled l.from l.d (λ e. add (get_or l.initial.area (l.from + e) 0) (get_or l.src e 0)) l.initial.area l.area
