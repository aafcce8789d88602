use Rattle.sha256.specs.Sha256.{expand}
use Rattle.sha256.specs.Words.{◌⊞◌}
use Rattle.sha256.proofs.expanded.Goals as goal

pub returns : goal.returns
unfolding expand ◌⊞◌
returns c = cc
