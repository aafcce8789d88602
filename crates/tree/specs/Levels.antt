-- The tree by levels, as the loops go through it. `proofs/Spans.antt` shows that it is the tree of RFC 6962.
use Rattle.std.specs.Prelude.{ℕ, zero, suc, ◌+◌, ◌-◌, ◌%◌, ◌^◌, List, ltb}
use Rattle.octets.specs.Bytes.{pick, place_each}
use Rattle.sha256.specs.Sha256.{sha256}
use Rattle.tree.specs.Tree.{Tree, tip, fork, path, flat}

-- the tree over the leaves from a on: 2 ^ d of them, or fewer where the n leaves end
unfoldable pub span : ℕ → ℕ → ℕ → Tree
span n zero a = tip a
span n (suc d) a = pick (ltb (a + 2 ^ d) n) (fork (a + 2 ^ d) (span n d a) (span n d (a + 2 ^ d))) (span n d a)

-- the first of the 2 ^ d leaves among which leaf i is
unfoldable pub start : ℕ → ℕ → ℕ
start d i = i - i % 2 ^ d

-- among the 2 ^ (d + 1) leaves: the first of their right half
unfoldable pub middle : ℕ → ℕ → ℕ
middle d i = start (d + 1) i + 2 ^ d

-- the tree, d levels high, that leaf i is in
unfoldable pub around : ℕ → ℕ → ℕ → Tree
around n d i = span n d (start d i)

-- the first leaf of the tree beside leaf i at level d
unfoldable pub beside : ℕ → ℕ → ℕ
beside d i = pick (ltb i (middle d i)) (middle d i) (start (d + 1) i)

-- ---- all paths, a level after the other

-- the path of leaf i as far as level d, as bytes
unfoldable pub path_to : ℕ → (ℕ → List ℕ) → ℕ → ℕ → List ℕ
path_to n fs d i = flat (path sha256 fs (around n d i) i)

-- the paths of the leaves before c as far as level d + 1, of the others as far as level d, each in its 192 bytes of s
unfoldable pub paths_to : ℕ → (ℕ → List ℕ) → ℕ → ℕ → List ℕ → List ℕ
paths_to n fs d c s = place_each n 192 (λ i. pick (ltb i c) (path_to n fs (d + 1) i) (path_to n fs d i)) s
