-- `tree_stack::lift` meets its contract.
-- Assumes nothing.
use mathlib.Core.Path.{refl, ◌∙◌}
use Prim.Native.Nat.{◌≤◌, ◌<◌}
use native.Mathlib.Omega.{arith}
use borrow.Author.Tests.{lt-ltb, le-ltb}
use Rattle.octets.proofs.Picks.{pick_on, pick_off}
use Rattle.tree.specs.Levels.{middle}
use Rattle.tree_stack.proofs.Stacks.{top_most, top_left, top_right}
use Rattle.tree_stack.proofs.lift.Goals as goal

pub returns-then-i-middle_of : goal.returns-then-i-middle_of
returns-then-i-middle_of c =
    let a = c.args in let h : a.i < middle a.d a.i = omega (arith, c.middle_of.ensures.0) in (c.requires.3 ∙ top_left a.i a.d c.requires.0 (omega arith) h, pick_on _ _ _ _ (lt-ltb _ _ h) refl)

pub overflow_sub-low : goal.overflow_sub-low
overflow_sub-low c =
    let a = c.args in let h : middle a.d a.i ≤ a.i = omega (arith, c.middle_of.ensures.0) in omega (arith, top_right a.i a.d c.requires.0 (omega arith) h)

pub join-requires : goal.join-requires
join-requires c =
    let a = c.args in (omega (arith, top_most a.i a.d c.requires.0 (omega arith)), c.requires.2)

pub returns : goal.returns
returns c =
    let a = c.args in let h : middle a.d a.i ≤ a.i = omega (arith, c.middle_of.ensures.0) in
    (omega (arith, top_right a.i a.d c.requires.0 (omega arith) h), pick_off _ _ _ _ (le-ltb _ _ h) c.join.ensures)
