-- `tree_grow::take_node` meets its contract. Assumes nothing.
use mathlib.Core.Path.{ap, refl, ◌∙◌}
use mathlib.Core.List.{List, ◌∷◌}
use Prim.Native.Nat.{ℕ}
use Rattle.octets.specs.Bytes.{put}
use Rattle.sha256.specs.Sha256.{sha256}
use Rattle.tree.specs.Tree.{node_hash}
use Rattle.tree.proofs.Pairs.{pair_left}
use Rattle.tree_grow.proofs.take_node.Goals as goal

pub returns : goal.returns
unfolding node_hash
returns c =
    let x = c.args.left.now in
    let y = c.args.right.now in
    let both = c.copy_at-2.ensures ∙ ap (put 32 y) c.copy_at.ensures ∙ pair_left x y _ 0 c.requires.0 c.requires.1 refl refl in
    (c.take_all.ensures.0, c.take_all.ensures.1 ∙ ap (λ (l : List ℕ). sha256 (1 ∷ l)) both)
