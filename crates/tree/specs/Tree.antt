-- RFC 6962, section 2.1: the hash tree over n leaves, and the audit path of a leaf. Leaves are numbered from 0: leaf i is the fragment of board i + 1.
use Rattle.std.specs.Prelude.{ℕ, zero, suc, ◌+◌, ◌-◌, ◌*◌, List, [], ◌∷◌, ◌++◌, ltb}
use Rattle.octets.specs.Bytes.{pick}
use Rattle.sha256.specs.Sha256.{sha256}

-- ---- the shape

-- leaf i; or the leaves before k on the left, and those from k on on the right
pub data Tree : Type 0 where
  tip : ℕ → Tree
  fork : ℕ → Tree → Tree → Tree

-- p doubled while that stays below n, at most d times
unfoldable pub doubled : ℕ → ℕ → ℕ → ℕ
doubled zero p n = p
doubled (suc d) p n = pick (ltb (2 * p) n) (doubled d (2 * p) n) p

-- document 01: "split at the largest power of two below the count", for a count n from 2 to 64
unfoldable pub half : ℕ → ℕ
half n = doubled 6 1 n

-- the tree over the n leaves from a on, at most d levels deep
unfoldable pub tree : ℕ → ℕ → ℕ → Tree
tree zero a n = tip a
tree (suc d) a n = pick (ltb 1 n) (fork (a + half n) (tree d a (half n)) (tree d (a + half n) (n - half n))) (tip a)

-- the tree over n leaves, n from 1 to 64
unfoldable pub tree_of : ℕ → Tree
tree_of n = tree 6 0 n

-- how many nodes the path of leaf i has
unfoldable pub depth : Tree → ℕ → ℕ
depth (tip j) i = 0
depth (fork k l r) i = pick (ltb i k) (depth l i + 1) (depth r i + 1)

-- document 01: "A path lists nodes from the leaf upward": as bytes, a node after the other
unfoldable pub flat : List (List ℕ) → List ℕ
flat [] = []
flat (x ∷ xs) = x ++ flat xs

-- ---- the hashes, by the hash function H

module _ (H : List ℕ → List ℕ) where
  -- document 01: "leaf prefix byte 0, node prefix byte 1"
  unfoldable pub leaf_hash : List ℕ → List ℕ
  leaf_hash f = H (0 ∷ f)

  -- "node prefix byte 1"
  unfoldable pub node_hash : List ℕ → List ℕ → List ℕ
  node_hash x y = H (1 ∷ (x ++ y))

  -- the tree hash, MTH: leaf i is the string fs i
  unfoldable pub root : (ℕ → List ℕ) → Tree → List ℕ
  root fs (tip i) = leaf_hash (fs i)
  root fs (fork k l r) = node_hash (root fs l) (root fs r)

  -- the audit path of leaf i, from the leaf upward, PATH
  unfoldable pub path : (ℕ → List ℕ) → Tree → ℕ → List (List ℕ)
  path fs (tip j) i = []
  path fs (fork k l r) i = pick (ltb i k) (path fs l i ++ (root fs r ∷ [])) (path fs r i ++ (root fs l ∷ []))

  -- the root that leaf i being f and the nodes ps 0, ps 1, .. of its path give
  unfoldable pub climb : (ℕ → List ℕ) → Tree → ℕ → List ℕ → List ℕ
  climb ps (tip j) i f = leaf_hash f
  climb ps (fork k l r) i f =
      pick (ltb i k) (node_hash (climb ps l i f) (ps (depth l i))) (node_hash (ps (depth r i)) (climb ps r i f))

-- ---- of the n fragments fs 0, fs 1, .., fs (n - 1), by SHA-256

-- document 01: "The tree is RFC 6962's over the fragments in board order"
unfoldable pub root_of : ℕ → (ℕ → List ℕ) → List ℕ
root_of n fs = root sha256 fs (tree_of n)

-- the path of fragment i
unfoldable pub path_of : ℕ → (ℕ → List ℕ) → ℕ → List (List ℕ)
path_of n fs i = path sha256 fs (tree_of n) i
