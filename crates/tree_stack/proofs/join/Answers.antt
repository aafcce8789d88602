-- `tree_stack::join` meets its contract.
-- Assumes nothing.
use Prim.Native.Nat.{◌+◌, ◌-◌}
use mathlib.Core.Path.{◌≡◌, refl}
use native.Mathlib.Omega.{arith}
use lib.ListN.{length-take, length-drop}
use Rattle.sha256.specs.Tables.{H0}
use Rattle.tree_stack.proofs.Stacks.{padded, node_put}
use Rattle.tree_stack.proofs.join.Goals as goal

pub absorb-requires : goal.absorb-requires
absorb-requires c =
    let a = c.args in let p = c.requires in let k : a.at + 64 - a.at ≡ 64 = omega arith in (simp (length-take, length-drop) (omega arith), refl, omega (arith, padded 1 (a.at + 64 - a.at) a.at 64 a.stack.now k (omega arith)))

pub returns : goal.returns
unfolding H0
returns c =
    let begun = c.begun-h in let absorb = c.absorb in let a = c.args in
    let p = c.requires in let k : a.at + 64 - a.at ≡ 64 = omega arith in
    node_put (a.at + 64 - a.at) a.at a.stack.now begun.result absorb.new.h c.put_digest.new.out k (omega arith) begun.ensures absorb.ensures c.put_digest.ensures
