-- `sha256::added` meets its contract. Assumes nothing.
use Rattle.std.proofs.Common.{◌≡◌, ◌+◌, ◌%◌, ◌^◌, get_or}
use Rattle.octets.proofs.Walk.{Walked}
use Rattle.sha256.proofs.added.Given as goal

abbrev pub invariant-loop-i : goal.invariant-loop-i
invariant-loop-i l = Walked (λ k v. v ≡ (get_or l.initial.sums k 0 + get_or l.y k 0) % 2 ^ 32) l.initial.sums l.i l.sums
