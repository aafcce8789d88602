-- `deliver_afresh::fresh_root` meets its contract. The loop's invariant: i leaves are taken up.
-- Assumes nothing.
use mathlib.Core.Path.{◌≡◌}
use mathlib.Core.List.{List}
use Prim.Native.Nat.{ℕ, suc, ◌<◌, ◌≤◌}
use lib.ListN.{length}
use Rattle.tree_stack.proofs.Stacks.{Risen}
use Rattle.deliver_afresh.specs.Working.{Made, Anew}
use Rattle.deliver_afresh.proofs.fresh_root.Given as goal

abbrev pub invariant-loop-i : goal.invariant-loop-i
invariant-loop-i l = (l.i ≤ l.n) × (length l.ws ≡ length l.kept.points.now) × (length l.buffer ≡ 64) × (length l.stack ≡ length l.initial.stack) × ((m b : List ℕ) (fs : ℕ → List ℕ) → Made l.kept.area.now l.kept.s l.kept.points.now m l.ds l.len b → ((j : ℕ) → j < l.n → Anew (length l.kept.points.now) l.len b l.row (suc j) (fs j)) → Risen l.n fs l.i l.stack)
