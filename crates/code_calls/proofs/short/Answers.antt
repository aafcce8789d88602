use Rattle.octets.proofs.Picks.{picks}
use Rattle.code_calls.specs.Rebuilding.{too_short}
use Rattle.code_calls.proofs.short.Goals as goal

pub returns-then-lengths-n : goal.returns-then-lengths-n
unfolding too_short
returns-then-lengths-n c = search picks

pub returns-then-area-n : goal.returns-then-area-n
unfolding too_short
returns-then-area-n c = search picks

pub returns : goal.returns
unfolding too_short
returns c = search picks
