-- `sha256::turn` meets its contract. Assumes nothing.
use Rattle.std.proofs.Common.{refl}
use Rattle.sha256.specs.Words.{rotr}
use Rattle.sha256.proofs.turn.Goals as goal

pub returns : goal.returns
unfolding rotr
returns c = refl
