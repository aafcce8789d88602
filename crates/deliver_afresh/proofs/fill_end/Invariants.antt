-- `deliver_afresh::fill_end` meets its contract. The loop's invariant: i bytes are right.
-- Assumes nothing.
use mathlib.Core.Path.{◌≡◌}
use mathlib.Core.List.{List}
use Prim.Native.Nat.{ℕ, ◌-◌, ◌<◌, ◌≤◌}
use lib.ListN.{length, get_or}
use Rattle.octets.proofs.Walk.{Walked}
use Rattle.deliver_afresh.proofs.Hashing.{Ended}
use Rattle.deliver_afresh.proofs.fill_end.Given as goal

abbrev pub invariant-loop-i : goal.invariant-loop-i
invariant-loop-i l = (l.i ≤ 64) × (length l.buffer ≡ 64) × ((f : List ℕ) → length f ≡ l.len → get_or f (l.len - 1) 0 ≡ l.v → 0 < l.len → Walked
    (Ended l.at l.len l.initial.buffer f) l.initial.buffer l.i l.buffer)
