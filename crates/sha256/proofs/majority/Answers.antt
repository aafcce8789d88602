-- `sha256::majority` meets its contract. Assumes nothing.
use Rattle.std.proofs.Common.{arith}
use Rattle.sha256.specs.Words.{maj}
use Rattle.sha256.proofs.Masks.{majority_mask}
use Rattle.sha256.proofs.majority.Goals as goal

pub returns : goal.returns
unfolding maj
returns c =
    let a = c.args in majority_mask 32 a.x a.y a.z (omega arith) (omega arith) (omega arith)
