-- `deliver_output::all_of_length` meets its contract. The loop's invariant: the lengths so far are len.
-- Assumes nothing.
use mathlib.Core.Path.{◌≡◌}
use mathlib.Core.List.{List}
use Prim.Native.Nat.{ℕ, ◌-◌, ◌*◌, ◌<◌}
use lib.ListN.{length, get_or, drop}
use Rattle.octets.specs.Bytes.{two_at}
use Rattle.deliver.specs.Delivered.{all_of_length}
use Rattle.deliver_output.proofs.all_of_length.Given as goal

abbrev pub invariant-loop-x : goal.invariant-loop-x
invariant-loop-x l = (fragment : ℕ → List ℕ) → ((j : ℕ) → j < length l.points → length (fragment (get_or l.points j 0)) ≡ two_at l.lengths (2 * (get_or l.points j 0 - 1)))
    → all_of_length l.len l.points fragment ≡ all_of_length l.len (drop l.x-index l.points) fragment
