-- Each leaf's own path is correct, and the way down for i ends at leaf i.
-- Assumes nothing.
use Prim.Native.Nat.{ℕ, zero, suc, ◌+◌, ◌≤◌, ◌<◌}
use mathlib.Core.Path.{◌≡◌, refl, sym, ap, ap₂, ◌∙◌}
use mathlib.Core.Bool.{Bool, true, false}
use mathlib.Core.Logic.{⊎_elim}
use mathlib.Core.List.{List, [], ◌∷◌, ◌++◌}
use native.Mathlib.Numerals.{add-one}
use native.Mathlib.Omega.{arith}
use borrow.Author.Tests.{lt-ltb, le-ltb}
use lib.Dec.{ltb}
use lib.ListN.{length, get_or, length-append, get_or-append}
use lib.Seq.{get_or_at}
use Rattle.octets.specs.Bytes.{pick}
use Rattle.octets.proofs.Walk.{lt_or_le}
use Rattle.tree.specs.Tree.{Tree, tip, fork, tree_of, depth, root, path, climb, leaf_hash, node_hash}
use Rattle.tree.specs.Levels.{span, start, middle, around}
use Rattle.tree.proofs.Spans.{around_none, around_all, around_left, around_right, around_alone}

-- the leaf that the way down for i ends at
unfoldable pub leaf_at : Tree → ℕ → ℕ
leaf_at (tip j) i = j
leaf_at (fork k l r) i = pick (ltb i k) (leaf_at l i) (leaf_at r i)

module _ (k : ℕ) (l r : Tree) (i : ℕ) where
  leaf_l : i < k → leaf_at (fork k l r) i ≡ leaf_at l i
  unfolding leaf_at pick
  leaf_l h = rw (lt-ltb i k h)

  leaf_r : k ≤ i → leaf_at (fork k l r) i ≡ leaf_at r i
  unfolding leaf_at pick
  leaf_r h = rw (le-ltb i k h)

leaf_around : (n i : ℕ) → i < n → (d : ℕ) → leaf_at (around n d i) i ≡ i
unfolding leaf_at pick
leaf_around n i lt zero = ap (λ (t : Tree). leaf_at t i) (around_none n i)
leaf_around n i lt (suc d) =
    rw (← add-one d)
    (⊎_elim
    (λ h. ⊎_elim
    (λ l. ap (λ (t : Tree). leaf_at t i) (around_left n d i h l) ∙ leaf_l (middle d i) (around n d i) (span n d (middle d i)) i l ∙ leaf_around n i lt d)
    (λ r. ap (λ (t : Tree). leaf_at t i) (around_right n d i h r) ∙ leaf_r (middle d i) (span n d (start (d + 1) i)) (around n d i) i r ∙ leaf_around n i lt d)
    (lt_or_le i (middle d i)))
    (λ h. ap (λ (t : Tree). leaf_at t i) (around_alone n d i lt h) ∙ leaf_around n i lt d)
    (lt_or_le (middle d i) n))

pub leaf_at_lem : (n i : ℕ) → n ≤ 64 → i < n → leaf_at (tree_of n) i ≡ i
leaf_at_lem n i h lt = ap (λ (t : Tree). leaf_at t i) (sym (around_all n i h lt)) ∙ leaf_around n i lt 6

-- ---- sizes

module _ (H : List ℕ → List ℕ) (size : (s : List ℕ) → length (H s) ≡ 32) (fs : ℕ → List ℕ) where
  pub root_size : (t : Tree) → length (root H fs t) ≡ 32
  unfolding root leaf_hash node_hash
  root_size (tip i) = size _
  root_size (fork k l r) = size _

  -- here fs are the nodes of a path
  pub climb_size : (t : Tree) (i : ℕ) (f : List ℕ) → length (climb H fs t i f) ≡ 32
  unfolding climb leaf_hash node_hash pick
  climb_size (tip j) i f = size _
  climb_size (fork k l r) i f =
      elim (ltb i k) as (λ b. length {A = ℕ} (pick b (node_hash H (climb H fs l i f) (fs (depth l i))) (node_hash H (fs (depth r i)) (climb H fs r i f))) ≡ 32) [
        | true ↦ size _
        | false ↦ size _
      ]

-- ---- the path

module _ (H : List ℕ → List ℕ) (fs : ℕ → List ℕ) where
  pub length_path : (t : Tree) (i : ℕ) → length (path H fs t i) ≡ depth t i
  unfolding path depth pick
  length_path (tip j) i = refl
  length_path (fork k l r) i =
      elim (ltb i k) as (λ b. ◌≡◌ {A = ℕ} (length {A = List ℕ} (pick b (path H fs l i ++ (root H fs r ∷ [])) (path H fs r i ++ (root H fs l ∷ []))))
      (pick b (depth l i + 1) (depth r i + 1))) [
        | true ↦ omega (arith, length_path l i, length-append (path H fs l i) (root H fs r ∷ []))
        | false ↦ omega (arith, length_path r i, length-append (path H fs r i) (root H fs l ∷ []))
      ]

  -- a climb looks only at the nodes below the depth
  pub climb_same : (ps qs : ℕ → List ℕ) (t : Tree) (i : ℕ) (f : List ℕ) → ((j : ℕ) → j < depth t i → ps j ≡ qs j) → climb H ps t i f ≡ climb H qs t i f
  unfolding climb depth pick
  climb_same ps qs (tip j) i f h = refl
  climb_same ps qs (fork k l r) i f h =
      (elim (ltb i k) as (λ b. ((j : ℕ) → j < pick b (depth l i + 1) (depth r i + 1) → ps j ≡ qs j) →
      ◌≡◌ {A = List ℕ} (pick b (node_hash H (climb H ps l i f) (ps (depth l i))) (node_hash H (ps (depth r i)) (climb H ps r i f)))
      (pick b (node_hash H (climb H qs l i f) (qs (depth l i))) (node_hash H (qs (depth r i)) (climb H qs r i f)))) [
        | true ↦ λ g. ap₂ (node_hash H) (climb_same ps qs l i f (λ j lt. g j (omega arith))) (g (depth l i) (omega arith))
        | false ↦ λ g. ap₂ (node_hash H) (g (depth r i) (omega arith)) (climb_same ps qs r i f (λ j lt. g j (omega arith)))
      ]) h

  -- with one node more at its end a path gives the same below
  more : (t : Tree) (i : ℕ) (x f : List ℕ) → climb H (λ j. get_or (path H fs t i ++ (x ∷ [])) j []) t i f ≡ climb H (λ j. get_or (path H fs t i) j []) t i f
  more t i x f =
      climb_same (λ j. get_or (path H fs t i ++ (x ∷ [])) j []) (λ j. get_or (path H fs t i) j []) t i f
      (λ j lt. get_or-append (path H fs t i) (x ∷ []) [] j (omega (arith, length_path t i)))

  abbrev Complete : Tree → ℕ → Type 0
  Complete t i = climb H (λ j. get_or (path H fs t i) j []) t i (fs (leaf_at t i)) ≡ root H fs t

  module _ (k : ℕ) (l r : Tree) (i : ℕ) where
    leaf_side : (b : Bool) → ltb i k ≡ b → leaf_at (fork k l r) i ≡ pick b (leaf_at l i) (leaf_at r i)
    unfolding leaf_at
    leaf_side b e = rw e

    path_side : (b : Bool) → ltb i k ≡ b → path H fs (fork k l r) i ≡ pick b (path H fs l i ++ (root H fs r ∷ [])) (path H fs r i ++ (root H fs l ∷ []))
    unfolding path
    path_side b e = rw e

    climb_side : (ps : ℕ → List ℕ) (f : List ℕ) (b : Bool) → ltb i k ≡ b
        → climb H ps (fork k l r) i f ≡ pick b (node_hash H (climb H ps l i f) (ps (depth l i))) (node_hash H (ps (depth r i)) (climb H ps r i f))
    unfolding climb
    climb_side ps f b e = rw e

    on_left : ltb i k ≡ true → Complete l i → Complete (fork k l r) i
    unfolding root pick
    on_left e h =
        climb_side (λ j. get_or (path H fs (fork k l r) i) j []) (fs (leaf_at (fork k l r) i)) true e
        ∙ ap₂ (node_hash H)
        (ap₂ (λ (p : List (List ℕ)) (x : ℕ). climb H (λ j. get_or p j []) l i (fs x)) (path_side true e) (leaf_side true e)
        ∙ more l i (root H fs r) (fs (leaf_at l i)) ∙ h)
        (ap (λ (p : List (List ℕ)). get_or p (depth l i) []) (path_side true e)
        ∙ get_or_at (path H fs l i) (root H fs r) [] [] (depth l i) (length_path l i))

    on_right : ltb i k ≡ false → Complete r i → Complete (fork k l r) i
    unfolding root pick
    on_right e h =
        climb_side (λ j. get_or (path H fs (fork k l r) i) j []) (fs (leaf_at (fork k l r) i)) false e
        ∙ ap₂ (node_hash H)
        (ap (λ (p : List (List ℕ)). get_or p (depth r i) []) (path_side false e)
        ∙ get_or_at (path H fs r i) (root H fs l) [] [] (depth r i) (length_path r i))
        (ap₂ (λ (p : List (List ℕ)) (x : ℕ). climb H (λ j. get_or p j []) r i (fs x)) (path_side false e) (leaf_side false e)
        ∙ more r i (root H fs l) (fs (leaf_at r i)) ∙ h)

    by_side : (b : Bool) → ltb i k ≡ b → Complete l i → Complete r i → Complete (fork k l r) i
    by_side true e left right = on_left e left
    by_side false e left right = on_right e right

  pub complete : (t : Tree) (i : ℕ) → Complete t i
  unfolding climb path root leaf_at pick
  complete (tip j) i = refl
  complete (fork k l r) i = by_side k l r i (ltb i k) refl (complete l i) (complete r i)
