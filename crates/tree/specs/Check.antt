-- When a path check says yes.
use Rattle.std.specs.Prelude.{ℕ, ◌-◌, ◌*◌, Bool, ◌&&◌, List, leb, eqb, length}
use Rattle.octets.specs.Bytes.{part, same}
use Rattle.sha256.specs.Sha256.{sha256}
use Rattle.tree.specs.Tree.{tree_of, depth, climb}

-- node j of a path's bytes, from the leaf upward
unfoldable pub node_of : List ℕ → ℕ → List ℕ
node_of p j = part (32 * j) 32 p

-- document 01: "A path check with a board number outside 1..n, n outside 1..64, a root or node not of 32 bytes, a wrong node count, or a
-- fragment above 65,535 bytes says no." Board i of n, from 1; the root r, the path's bytes p, the fragment f
unfoldable pub path_correct : ℕ → ℕ → List ℕ → List ℕ → List ℕ → Bool
path_correct n i r p f =
    leb 1 n && (leb n 64 && (leb 1 i && (leb i n && (eqb (length r) 32 && (leb (length f) 65535 && (eqb (length p) (32 * depth (tree_of n) (i - 1))
    && same (climb sha256 (node_of p) (tree_of n) (i - 1) f) r))))))
