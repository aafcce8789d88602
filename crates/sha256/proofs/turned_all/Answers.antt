use Rattle.std.proofs.Common.{refl, arith}
use Rattle.sha256.specs.Sha256.{rounds}
use Rattle.sha256.proofs.turned_all.Goals as goal

pub loop-q-init : goal.loop-q-init
unfolding rounds
loop-q-init c = (omega arith, refl)
