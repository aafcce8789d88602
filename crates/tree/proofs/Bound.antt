-- A path that is correct under the root of fs binds its fragment: it is leaf i of fs, or two strings hashed collide.
-- Holds for any hash function with values of 32 bytes. Assumes nothing.
use Prim.Native.Nat.{ℕ, ◌<◌}
use mathlib.Core.Path.{◌≡◌, refl, sym, ap, ◌∙◌}
use mathlib.Core.Bool.{Bool, true, false}
use mathlib.Core.Logic.{◌⊎◌, inl, inr}
use mathlib.Core.List.Memᴰ
use mathlib.Core.List.{List, [], ◌∷◌, ◌++◌, Memᴰ, List-discrete, tail-eq_of_cons-eq}
use native.Mathlib.Decide.{ℕ_discrete}
use native.Mathlib.Omega.{arith}
use lib.Dec.{ltb}
use lib.ListN.{length, take, drop}
use lib.Seq.{take_at, drop_at}
use Rattle.octets.specs.Bytes.{pick}
use Rattle.tree.specs.Tree.{Tree, tip, fork, depth, root, climb, leaf_hash, node_hash}
use Rattle.tree.specs.Strings.{Collision, hashed, climbed}
use Rattle.tree.proofs.Whole.{leaf_at, root_size, climb_size}

-- two joined strings are equal part by part, where the first parts are equally long
firsts : (n : ℕ) (a b c d : List ℕ) → length a ≡ n → length c ≡ n → a ++ b ≡ c ++ d → a ≡ c
firsts n a b c d ha hc e = sym (take_at a b n ha) ∙ ap (λ (l : List ℕ). take n l) e ∙ take_at c d n hc

seconds : (n : ℕ) (a b c d : List ℕ) → length a ≡ n → length c ≡ n → a ++ b ≡ c ++ d → b ≡ d
seconds n a b c d ha hc e = sym (drop_at a b n ha) ∙ ap (λ (l : List ℕ). drop n l) e ∙ drop_at c d n hc

module _ (H : List ℕ → List ℕ) (size : (s : List ℕ) → length (H s) ≡ 32) (fs ps : ℕ → List ℕ) where
  -- a fragment is its leaf, or two strings collide
  abbrev pub Bound : Tree → ℕ → List ℕ → Type 0
  Bound t i f = (f ≡ fs (leaf_at t i)) ⊎ Collision H (climbed H ps t i f) (hashed H fs t)

  -- the nodes that the check looks at are hashes
  abbrev pub Sized : Tree → ℕ → Type 0
  Sized t i = (j : ℕ) → j < depth t i → length (ps j) ≡ 32

  -- equal hashes of two strings: the strings are equal, or they collide
  met : (x y : List ℕ) (xs ys : List (List ℕ)) → Memᴰ x xs → Memᴰ y ys → H x ≡ H y → (x ≡ y) ⊎ Collision H xs ys
  met x y xs ys hx hy e =
      elim (List-discrete ℕ_discrete x y) [
        | yes q ↦ inl q
        | no q ↦ inr (record { one = x; other = y; one_in = hx; other_in = hy; differ = q; same = e })
      ]

  -- a collision in a part is one in the whole
  wider : {xs ys xs' ys' : List (List ℕ)} → ((x : List ℕ) → Memᴰ x xs → Memᴰ x xs') → ((y : List ℕ) → Memᴰ y ys → Memᴰ y ys')
      → Collision H xs ys → Collision H xs' ys'
  wider f g c = record { one = c.one; other = c.other; one_in = f _ c.one_in; other_in = g _ c.other_in; differ = c.differ; same = c.same }

  module _ (k : ℕ) (l r : Tree) (i : ℕ) (f : List ℕ) (sized : Sized (fork k l r) i) (e : climb H ps (fork k l r) i f ≡ root H fs (fork k l r)) where
    on_left : ltb i k ≡ true → (Sized l i → climb H ps l i f ≡ root H fs l → Bound l i f) → Bound (fork k l r) i f
    unfolding climb root node_hash hashed climbed leaf_at depth pick
    on_left b below =
        let e' : H (1 ∷ (climb H ps l i f ++ ps (depth l i))) ≡ H (1 ∷ (root H fs l ++ root H fs r)) = rw b at e in
        rw b
        (elim (met _ _ ((1 ∷ (climb H ps l i f ++ ps (depth l i))) ∷ climbed H ps l i f) ((1 ∷ (root H fs l ++ root H fs r)) ∷ (hashed H fs l ++ hashed H fs r)) (Memᴰ.head refl) (Memᴰ.head refl) e') [
          | inl q ↦
              elim (below (λ j h. sized j (rw b (omega arith))) (firsts 32 _ _ _ _ (climb_size H size ps l i f) (root_size H size fs l) (tail-eq_of_cons-eq q))) [
                | inl same ↦ inl same
                | inr c ↦ inr (wider (λ x m. Memᴰ.tail m) (λ y m. Memᴰ.tail (Memᴰ.append_left _ m)) c)
              ]
          | inr c ↦ inr c
        ])

    on_right : ltb i k ≡ false → (Sized r i → climb H ps r i f ≡ root H fs r → Bound r i f) → Bound (fork k l r) i f
    unfolding climb root node_hash hashed climbed leaf_at depth pick
    on_right b below =
        let e' : H (1 ∷ (ps (depth r i) ++ climb H ps r i f)) ≡ H (1 ∷ (root H fs l ++ root H fs r)) = rw b at e in
        rw b
        (elim (met _ _ ((1 ∷ (ps (depth r i) ++ climb H ps r i f)) ∷ climbed H ps r i f) ((1 ∷ (root H fs l ++ root H fs r)) ∷ (hashed H fs l ++ hashed H fs r)) (Memᴰ.head refl) (Memᴰ.head refl) e') [
          | inl q ↦
              elim (below (λ j h. sized j (rw b (omega arith))) (seconds 32 (ps (depth r i)) (climb H ps r i f) (root H fs l) (root H fs r) (sized (depth r i) (rw b (omega arith))) (root_size H size fs l) (tail-eq_of_cons-eq q))) [
                | inl same ↦ inl same
                | inr c ↦ inr (wider (λ x m. Memᴰ.tail m) (λ y m. Memᴰ.tail (Memᴰ.append_right (hashed H fs l) m)) c)
              ]
          | inr c ↦ inr c
        ])

    by_side : (b : Bool) → ltb i k ≡ b → (Sized l i → climb H ps l i f ≡ root H fs l → Bound l i f)
        → (Sized r i → climb H ps r i f ≡ root H fs r → Bound r i f) → Bound (fork k l r) i f
    by_side true b left right = on_left b left
    by_side false b left right = on_right b right

  pub bound : (t : Tree) (i : ℕ) (f : List ℕ) → Sized t i → climb H ps t i f ≡ root H fs t → Bound t i f
  unfolding climb root leaf_hash hashed climbed leaf_at pick
  bound (tip j) i f sized e =
      elim (met (0 ∷ f) (0 ∷ fs j) ((0 ∷ f) ∷ []) ((0 ∷ fs j) ∷ []) (Memᴰ.head refl) (Memᴰ.head refl) e) [ inl q ↦ inl (tail-eq_of_cons-eq q) | inr c ↦ inr c ]
  bound (fork k l r) i f sized e = by_side k l r i f sized e (ltb i k) refl (bound l i f) (bound r i f)
