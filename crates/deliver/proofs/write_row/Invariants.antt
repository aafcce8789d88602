-- `deliver::write_row` meets its contract. The loop's invariant: the row's bytes from i on are written.
-- Assumes nothing.
use mathlib.Core.Path.{◌≡◌}
use mathlib.Core.List.{List}
use Prim.Native.Nat.{ℕ, suc, ◌+◌, ◌*◌, ◌<◌, ◌≤◌}
use lib.ListN.{length, get_or}
use Rattle.code_through.specs.Sums.{Weights}
use Rattle.deliver_afresh.specs.Working.{Made}
use Rattle.deliver.proofs.write_row.Given as goal

abbrev pub invariant-loop-i : goal.invariant-loop-i
invariant-loop-i l = (l.i ≤ length l.kept.points.now) × (length l.row ≡ length l.kept.points.now) × (length l.ts ≡ length l.kept.points.now) × Weights l.kept.points.now l.m l.es (suc l.i) l.ts × ((len : ℕ) (b : List ℕ) → Made l.kept.area.now l.kept.s l.kept.points.now l.m l.ds len b → l.c < len → (q : ℕ) → l.i ≤ q → q < length l.kept.points.now → get_or l.row q 0 ≡ get_or b (l.c * length l.kept.points.now + q) 0)
