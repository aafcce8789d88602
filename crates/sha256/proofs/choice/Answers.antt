-- `sha256::choice` meets its contract. Assumes nothing.
use Rattle.std.proofs.Common.{arith}
use Rattle.sha256.specs.Words.{ch, not32}
use Rattle.sha256.proofs.Masks.{choice_mask}
use Rattle.sha256.proofs.choice.Goals as goal

pub returns : goal.returns
unfolding ch not32
returns c =
    let a = c.args in choice_mask 32 a.x a.y a.z (omega arith) (omega arith) (omega arith)
