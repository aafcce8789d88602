-- `deliver_output::write_message` meets its contract. The loop's invariant: the columns from i on are written.
-- Assumes nothing.
use mathlib.Core.Path.{◌≡◌}
use mathlib.Core.List.{List}
use Prim.Native.Nat.{ℕ, suc, ◌≤◌}
use lib.ListN.{length}
use Rattle.code_through.specs.Sums.{Weights}
use Rattle.deliver_afresh.specs.Working.{Made}
use Rattle.deliver.specs.Working.{Copied}
use Rattle.deliver_output.proofs.write_message.Given as goal

abbrev pub invariant-loop-i : goal.invariant-loop-i
invariant-loop-i l = (l.i ≤ length l.kept.points.now) × (length l.out ≡ length l.initial.out) × (length l.ws ≡ length l.kept.points.now) ×
    (length l.sum ≡ 64) × Weights l.kept.points.now l.m l.ds (suc l.i) l.ws × ((b : List ℕ) → Made l.kept.area.now l.kept.s l.kept.points.now l.m l.ds l.len b → Copied b l.size (length l.kept.points.now) l.i 0 l.initial.out l.out)
