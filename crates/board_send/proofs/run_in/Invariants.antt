-- `board_send::run_in` meets its contract. The loop's invariant: j fragments are taken up.
-- Assumes nothing.
use mathlib.Core.Path.{◌≡◌}
use Prim.Native.Nat.{◌+◌, ◌≤◌}
use lib.ListN.{length}
use Rattle.tree_stack.proofs.Stacks.{Risen}
use Rattle.board_send.specs.Laying.{fragments, Alike}
use Rattle.board_send.proofs.run_in.Given as goal

abbrev pub invariant-loop-j : goal.invariant-loop-j
invariant-loop-j l = (l.j ≤ l.c) × (length l.out ≡ length l.initial.out) × (length l.stack ≡ length l.initial.stack) × Alike l.cut.at l.cut.len l.out l.initial.out × Risen l.c (λ j. fragments l.cut.k l.cut.message.now (l.a + j)) l.j l.stack
