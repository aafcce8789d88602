-- The strings that are hashed, and two of them with one hash.
use Rattle.std.specs.Prelude.{ℕ, ◌-◌, ◌*◌, ◌≡◌, ltb, eqb, length}
use mathlib.Core.List.{List, [], ◌∷◌, ◌++◌, Memᴰ}
use Rattle.octets.specs.Bytes.{pick}
use Rattle.sha256.specs.Sha256.{sha256}
use Rattle.tree.specs.Tree.{Tree, tip, fork, tree_of, depth, root, climb}
use Rattle.tree.specs.Check.{node_of}

module _ (H : List ℕ → List ℕ) where
  -- the strings hashed for a root
  unfoldable pub hashed : (ℕ → List ℕ) → Tree → List (List ℕ)
  hashed fs (tip i) = (0 ∷ fs i) ∷ []
  hashed fs (fork k l r) = (1 ∷ (root H fs l ++ root H fs r)) ∷ (hashed fs l ++ hashed fs r)

  -- the strings hashed in a climb from leaf i being f, beside the nodes ps 0, ps 1, ..
  unfoldable pub climbed : (ℕ → List ℕ) → Tree → ℕ → List ℕ → List (List ℕ)
  climbed ps (tip j) i f = (0 ∷ f) ∷ []
  climbed ps (fork k l r) i f =
      pick (ltb i k) ((1 ∷ (climb H ps l i f ++ ps (depth l i))) ∷ climbed ps l i f) ((1 ∷ (ps (depth r i) ++ climb H ps r i f)) ∷ climbed ps r i f)

-- document 01, the strings hashed "in path checks": board i of n, from 1, the path's bytes p, the fragment f; none if the node count is
-- wrong, for then the check says no before it hashes
unfoldable pub check_strings : ℕ → ℕ → List ℕ → List ℕ → List (List ℕ)
check_strings n i p f = pick (eqb (length p) (32 * depth (tree_of n) (i - 1))) (climbed sha256 (node_of p) (tree_of n) (i - 1) f) []

-- document 01, the strings hashed in an "encoding": its n fragments fs 0, fs 1, ..
unfoldable pub tree_strings : ℕ → (ℕ → List ℕ) → List (List ℕ)
tree_strings n fs = hashed sha256 fs (tree_of n)

-- two different strings, one of xs and one of ys, with one hash
pub record Collision (H : List ℕ → List ℕ) (xs ys : List (List ℕ)) : Type 0 where
  pub one : List ℕ
  pub other : List ℕ
  pub one_in : Memᴰ one xs
  pub other_in : Memᴰ other ys
  pub differ : one ≡ other → ⊥
  pub same : H one ≡ H other
