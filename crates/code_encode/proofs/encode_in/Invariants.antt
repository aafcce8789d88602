-- `code_encode::encode_in` meets its contract. The loop's invariant: so many rows of each fragment are done.
-- Assumes nothing.
use Prim.Native.Nat.{suc, ◌+◌, ◌-◌, ◌≤◌}
use lib.ListN.{length}
use Rattle.code.specs.Code.{fragment_byte}
use Rattle.code.specs.Block.{block}
use Rattle.code_encode.specs.Patch.{Patch}
use Rattle.code_encode.proofs.encode_in.Given as goal

abbrev pub invariant-loop-done : goal.invariant-loop-done
invariant-loop-done l = (l.done ≤ l.size) × Patch l.at (length l.fn.powers) l.s l.done (λ i d. fragment_byte l.k (block l.k l.message) (suc (l.first + i)) d) l.initial.area l.area

abbrev pub decreases-loop-done : goal.decreases-loop-done
decreases-loop-done l = l.size - l.done
