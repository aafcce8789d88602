-- `code_rebuild::same_bytes` meets its contract. The loop's invariant: nothing differs yet exactly where i bytes are the same.
-- Assumes nothing.
use mathlib.Core.Path.{◌≡◌}
use Prim.Native.Nat.{◌≤◌}
use lib.ListN.{length}
use Rattle.code_through.proofs.Same.{Same}
use Rattle.code_rebuild.proofs.same_bytes.Given as goal

abbrev pub invariant-loop-i : goal.invariant-loop-i
invariant-loop-i l = (l.i ≤ length l.a) × (l.differ ≡ 0 → Same l.a l.b l.i) × (Same l.a l.b l.i → l.differ ≡ 0)
