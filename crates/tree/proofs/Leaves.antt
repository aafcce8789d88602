-- A tree of n leaves looks at the leaves below n alone.
-- Assumes nothing.
use Prim.Native.Nat.{ℕ, zero, suc, ◌+◌, ◌^◌, ◌≤◌, ◌<◌}
use mathlib.Core.Path.{◌≡◌, refl, sym, ap, ap₂, subst}
use mathlib.Core.Bool.{true, false}
use mathlib.Core.Logic.{⊎_elim}
use mathlib.Core.List.{List, [], ◌∷◌, ◌++◌}
use native.Mathlib.Numerals.{add-one}
use lib.Dec.{ltb}
use Rattle.octets.specs.Bytes.{pick}
use Rattle.octets.proofs.Walk.{lt_or_le}
use Rattle.sha256.specs.Sha256.{sha256}
use Rattle.tree.specs.Tree.{Tree, tip, fork, tree_of, root, path, leaf_hash, node_hash, root_of, path_of}
use Rattle.tree.specs.Strings.{hashed}
use Rattle.tree.specs.Levels.{span}
use Rattle.tree.proofs.Spans.{tree_span, span_fork, span_alone}

data Below (n : ℕ) : Tree → Type 0 where
  leaf : {i : ℕ} → i < n → Below n (tip i)
  both : {k : ℕ} {l r : Tree} → Below n l → Below n r → Below n (fork k l r)

span_below : (n d a : ℕ) → a < n → Below n (span n d a)
unfolding span
span_below n zero a h = leaf h
span_below n (suc d) a h =
    subst (λ (e : ℕ). Below n (span n e a)) (add-one d)
    (⊎_elim (λ lt. subst (Below n) (sym (span_fork n d a lt)) (both (span_below n d a h) (span_below n d (a + 2 ^ d) lt)))
    (λ ge. subst (Below n) (sym (span_alone n d a ge)) (span_below n d a h))
    (lt_or_le (a + 2 ^ d) n))

tree_below : (n : ℕ) → 1 ≤ n → n ≤ 64 → Below n (tree_of n)
tree_below n low high = subst (Below n) (sym (tree_span n low high)) (span_below n 6 0 low)

module _ (H : List ℕ → List ℕ) (n : ℕ) (fs gs : ℕ → List ℕ) (same : (i : ℕ) → i < n → fs i ≡ gs i) where
  root_alike : (t : Tree) → Below n t → root H fs t ≡ root H gs t
  unfolding root
  root_alike (tip i) (leaf h) = ap (leaf_hash H) (same i h)
  root_alike (fork k l r) (both a b) = ap₂ (node_hash H) (root_alike l a) (root_alike r b)

  path_alike : (t : Tree) → Below n t → (i : ℕ) → path H fs t i ≡ path H gs t i
  unfolding path pick
  path_alike (tip j) (leaf h) i = refl
  path_alike (fork k l r) (both a b) i =
      elim (ltb i k) as (λ c. ◌≡◌ {A = List (List ℕ)} (pick c (path H fs l i ++ (root H fs r ∷ [])) (path H fs r i ++ (root H fs l ∷ [])))
      (pick c (path H gs l i ++ (root H gs r ∷ [])) (path H gs r i ++ (root H gs l ∷ [])))) [
        | true ↦ ap₂ (λ (p : List (List ℕ)) (x : List ℕ). p ++ (x ∷ [])) (path_alike l a i) (root_alike r b)
        | false ↦ ap₂ (λ (p : List (List ℕ)) (x : List ℕ). p ++ (x ∷ [])) (path_alike r b i) (root_alike l a)
      ]

  hashed_alike : (t : Tree) → Below n t → hashed H fs t ≡ hashed H gs t
  unfolding hashed
  hashed_alike (tip i) (leaf h) = ap (λ (f : List ℕ). (0 ∷ f) ∷ []) (same i h)
  hashed_alike (fork k l r) (both a b) = rw (root_alike l a, root_alike r b, hashed_alike l a, hashed_alike r b)

module _ (n : ℕ) (low : 1 ≤ n) (high : n ≤ 64) (fs gs : ℕ → List ℕ) (same : (i : ℕ) → i < n → fs i ≡ gs i) where
  pub root_of_alike : root_of n fs ≡ root_of n gs
  unfolding root_of
  root_of_alike = root_alike sha256 n fs gs same (tree_of n) (tree_below n low high)

  pub path_of_alike : (i : ℕ) → path_of n fs i ≡ path_of n gs i
  unfolding path_of
  path_of_alike i = path_alike sha256 n fs gs same (tree_of n) (tree_below n low high) i
