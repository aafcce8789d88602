-- `code_through::weigh` meets its contract. The loop's invariant: j weights are written.
-- Assumes nothing.
use Prim.Native.Nat.{◌≤◌}
use lib.ListN.{length, get_or}
use Rattle.octets.proofs.Walk.{Walked}
use Rattle.code_through.specs.Sums.{Weight}
use Rattle.code_through.proofs.weigh.Given as goal

abbrev pub invariant-loop-j : goal.invariant-loop-j
invariant-loop-j l = (l.j ≤ length l.points) × Walked (λ i v. Weight (get_or l.points i 0) l.z (get_or l.ds i 0) l.at (get_or l.initial.ws i 0) v) l.initial.ws l.j l.ws
