-- `tree_grow::take_leaf` meets its contract. Assumes nothing.
use Rattle.tree.specs.Tree.{leaf_hash}
use Rattle.tree_grow.proofs.take_leaf.Goals as goal

pub returns : goal.returns
unfolding leaf_hash
returns c = c.take_all.ensures
