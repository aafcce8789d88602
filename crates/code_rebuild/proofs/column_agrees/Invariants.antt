-- `code_rebuild::column_agrees` meets its contract. The loop's invariant: c bytes agree.
-- Assumes nothing.
use Prim.Native.Nat.{ℕ, ◌-◌, ◌<◌, ◌≤◌}
use Rattle.code_through.specs.Sums.{Sums}
use Rattle.code_rebuild.proofs.column_agrees.Given as goal

abbrev pub invariant-loop-c : goal.invariant-loop-c
invariant-loop-c l = (l.c ≤ l.count) × ((d : ℕ) → d < l.c → Sums l.area l.s l.points l.ws l.z d)

abbrev pub decreases-loop-c : goal.decreases-loop-c
decreases-loop-c l = l.count - l.c
