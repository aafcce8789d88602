-- `sha256::small0` meets its contract. Assumes nothing.
use Rattle.sha256.specs.Words.{σ₀, shr}
use Rattle.sha256.proofs.small0.Goals as goal

pub returns : goal.returns
unfolding σ₀ shr
returns c = cc
