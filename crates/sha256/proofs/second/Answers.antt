use Rattle.sha256.specs.Sha256.{T₂}
use Rattle.sha256.specs.Words.{◌⊞◌}
use Rattle.sha256.proofs.second.Goals as goal

pub returns : goal.returns
unfolding T₂ ◌⊞◌
returns c = cc
