-- `deliver::size_in` meets its contract. The loop's invariant: the first p bytes are read, and the row that the last of them is in stands.
-- Assumes nothing.
use mathlib.Core.Path.{◌≡◌}
use mathlib.Core.List.{List}
use Prim.Native.Nat.{ℕ, ◌-◌, ◌*◌, ◌/◌, ◌<◌}
use lib.ListN.{length, get_or}
use Rattle.deliver_afresh.specs.Working.{Made}
use Rattle.deliver.specs.Working.{Row}
use Rattle.deliver.proofs.size_in.Given as goal

abbrev pub invariant-loop-p : goal.invariant-loop-p
invariant-loop-p l = (length l.head ≡ 4) × ((len : ℕ) (b : List ℕ) → Made l.kept.area.now l.kept.s l.kept.points.now l.m l.ds len b → 3 < len * length l.kept.points.now
    → ((q : ℕ) → q < l.p → get_or l.head q 0 ≡ get_or b q 0) × (0 < l.p → Row (length l.kept.points.now) b ((l.p - 1) / length l.kept.points.now) l.row))
