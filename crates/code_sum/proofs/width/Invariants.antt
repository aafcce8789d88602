-- `code_sum::width` meets its contract. The loop's invariant: no bit from b on.
-- Assumes nothing.
use Prim.Native.Nat.{◌^◌, ◌<◌, ◌≤◌}
use Rattle.code_sum.proofs.width.Given as goal

abbrev pub invariant-loop-b : goal.invariant-loop-b
invariant-loop-b l = (l.b ≤ 8) × (l.top < 2 ^ l.b)
