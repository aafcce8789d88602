-- `board_send::put_path` meets its contract. The loop's invariant: the path stands in the buffer as far as level d.
-- Assumes nothing.
use mathlib.Core.Path.{◌≡◌}
use Prim.Native.Nat.{◌≤◌}
use lib.ListN.{length}
use Rattle.board_send.specs.Laying.{fragments, Laid}
use Rattle.board_send.proofs.put_path.Given as goal

abbrev pub invariant-loop-d : goal.invariant-loop-d
invariant-loop-d l = (l.d ≤ 6) × (length l.out ≡ length l.initial.out) × (length l.stack ≡ length l.initial.stack) × Laid l.n (fragments l.cut.k l.cut.message.now) l.i l.d l.cut.at l.cut.len l.initial.out l.out
