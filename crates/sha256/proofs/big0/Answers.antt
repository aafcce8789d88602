-- `sha256::big0` meets its contract. Assumes nothing.
use Rattle.sha256.specs.Words.{Σ₀}
use Rattle.sha256.proofs.big0.Goals as goal

pub returns : goal.returns
unfolding Σ₀
returns c = cc
