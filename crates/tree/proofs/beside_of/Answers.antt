-- `tree::beside_of` meets its contract. Assumes nothing.
use borrow.Author.Tests.{lt-ltb, le-ltb}
use native.Mathlib.Omega.{arith}
use Rattle.octets.proofs.Picks.{pick_on, pick_off}
use Rattle.tree.specs.Levels.{middle, beside}
use Rattle.tree.proofs.beside_of.Goals as goal

pub returns-then-i-m : goal.returns-then-i-m
unfolding beside
returns-then-i-m c =
    let a = c.args in pick_on _ _ _ _ (lt-ltb a.i (middle a.d a.i) (omega arith)) c.middle_of-m.ensures.0

pub returns : goal.returns
unfolding beside
returns c =
    let a = c.args in pick_off _ _ _ _ (le-ltb a.i (middle a.d a.i) (omega arith)) c.first_of.ensures.0
