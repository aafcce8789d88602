-- `sha256::small1` meets its contract. Assumes nothing.
use Rattle.sha256.specs.Words.{σ₁, shr}
use Rattle.sha256.proofs.small1.Goals as goal

pub returns : goal.returns
unfolding σ₁ shr
returns c = cc
