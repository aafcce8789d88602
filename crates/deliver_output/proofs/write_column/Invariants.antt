-- `deliver_output::write_column` meets its contract. The loop's invariant: the column is written for c rows.
-- Assumes nothing.
use mathlib.Core.Path.{◌≡◌}
use mathlib.Core.List.{List}
use Prim.Native.Nat.{ℕ, suc, ◌+◌, ◌-◌, ◌*◌, ◌<◌, ◌≤◌}
use lib.ListN.{length, get_or}
use Rattle.code_sum.specs.Sums.{weighed}
use Rattle.deliver.specs.Working.{Copied}
use Rattle.deliver_output.proofs.write_column.Given as goal

abbrev pub invariant-loop-c : goal.invariant-loop-c
invariant-loop-c l = (l.c ≤ l.len) × (length l.out ≡ length l.initial.out) × (length l.sum ≡ 64) × ((b old : List ℕ) →
    ((d : ℕ) → d < l.len → weighed l.kept.area.now l.kept.s l.kept.points.now l.ws d (length l.kept.points.now) ≡ get_or b (d * length l.kept.points.now + l.q) 0) → Copied b l.size (length l.kept.points.now)
    (suc l.q) 0 old l.initial.out → Copied b l.size (length l.kept.points.now) (suc l.q) l.c old l.out)

abbrev pub decreases-loop-c : goal.decreases-loop-c
decreases-loop-c l = l.len - l.c
