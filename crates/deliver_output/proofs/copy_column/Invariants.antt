-- `deliver_output::copy_column` meets its contract. The loop's invariant: i bytes are looked at.
-- Assumes nothing.
use mathlib.Core.Path.{◌≡◌}
use mathlib.Core.List.{List}
use Prim.Native.Nat.{ℕ, suc, ◌+◌, ◌*◌, ◌<◌, ◌≤◌}
use lib.ListN.{length, get_or}
use Rattle.deliver.specs.Working.{Copied}
use Rattle.deliver_output.proofs.copy_column.Given as goal

abbrev pub invariant-loop-i : goal.invariant-loop-i
invariant-loop-i l = (l.i ≤ length l.src) × (length l.out ≡ length l.initial.out) × ((b old : List ℕ) → ((j : ℕ) → j < length l.src → get_or l.src j 0 ≡ get_or b
    ((l.c + j) * l.k + l.q) 0) → Copied b l.size l.k (suc l.q) l.c old l.initial.out → Copied b l.size l.k (suc l.q) (l.c + l.i) old l.out)
