-- `tree::middle_of` meets its contract. Assumes nothing.
use native.Mathlib.Omega.{arith}
use Rattle.tree.specs.Levels.{middle}
use Rattle.tree.proofs.middle_of.Goals as goal

pub returns : goal.returns
unfolding middle
returns c = (omega arith, omega arith)
