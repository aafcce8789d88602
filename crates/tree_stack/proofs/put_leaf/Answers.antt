-- `tree_stack::put_leaf` meets its contract.
-- Assumes nothing.
use native.Mathlib.Omega.{arith}
use Rattle.sha256.specs.Tables.{H0}
use Rattle.tree_stack.proofs.Stacks.{padded_leaf, leaf_put}
use Rattle.tree_stack.proofs.put_leaf.Goals as goal

pub absorb-requires : goal.absorb-requires
absorb-requires c = (omega arith, omega arith, omega (arith, padded_leaf 0 c.args.leaf.now))

pub returns : goal.returns
unfolding H0
returns c =
    let a = c.args in
    leaf_put a.at a.leaf.now a.stack.now c.begun-h.result c.absorb.new.h c.put_digest.new.out c.begun-h.ensures c.absorb.ensures c.put_digest.ensures
