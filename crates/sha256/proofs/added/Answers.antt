use Rattle.std.proofs.Common.{arith}
use Rattle.sha256.proofs.Rounds.{added_sums}
use Rattle.sha256.proofs.added.Goals as goal

pub returns : goal.returns
returns c =
    let w = c.loop-i.invariant in
    added_sums _ _ _ (omega arith) (λ k h. w.done k (omega arith))
