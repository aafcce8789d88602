-- `sha256::big1` meets its contract. Assumes nothing.
use Rattle.sha256.specs.Words.{Σ₁}
use Rattle.sha256.proofs.big1.Goals as goal

pub returns : goal.returns
unfolding Σ₁
returns c = cc
