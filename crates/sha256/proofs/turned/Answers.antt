use Rattle.std.proofs.Common.{refl}
use Rattle.sha256.proofs.Rounds.{made_round}
use Rattle.sha256.proofs.turned.Goals as goal

pub returns : goal.returns
returns c = made_round _ _ _ _ _ _ _ c.first-x.ensures c.second-y.ensures refl refl
