use Rattle.sha256.specs.Sha256.{T₁}
use Rattle.sha256.specs.Words.{◌⊞◌}
use Rattle.sha256.proofs.first.Goals as goal

pub returns : goal.returns
unfolding T₁ ◌⊞◌
returns c = cc
