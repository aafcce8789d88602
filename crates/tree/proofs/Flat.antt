-- A path as bytes: how long it is, and which node stands where.
-- Assumes nothing.
use Prim.Native.Nat.{ℕ, zero, suc, ◌+◌, ◌*◌, ◌<◌}
use mathlib.Core.Path.{◌≡◌, refl, sym, ap, ◌∙◌}
use mathlib.Core.Bool.{true, false}
use mathlib.Core.List.{List, [], ◌∷◌, ◌++◌, append_assoc, append-nil}
use native.Mathlib.Omega.{arith}
use lib.Dec.{ltb}
use lib.ListN.{length, get_or, take, drop, length-append}
use lib.Seq.{take_at, drop-append-add}
use Rattle.octets.specs.Bytes.{pick, part}
use Rattle.tree.specs.Tree.{Tree, tip, fork, depth, root, path, flat}
use Rattle.tree.specs.Check.{node_of}
use Rattle.tree.proofs.Whole.{root_size, length_path}

pub flat_snoc : (xs : List (List ℕ)) (x : List ℕ) → flat (xs ++ (x ∷ [])) ≡ flat xs ++ x
unfolding flat
flat_snoc [] x = append-nil x
flat_snoc (y ∷ ys) x = ap (λ (l : List ℕ). y ++ l) (flat_snoc ys x) ∙ sym (append_assoc y (flat ys) x)

-- all of 32 bytes
data Sized : List (List ℕ) → Type 0 where
  none : Sized []
  one : {x : List ℕ} {xs : List (List ℕ)} → length x ≡ 32 → Sized xs → Sized (x ∷ xs)

sized_snoc : {xs : List (List ℕ)} → Sized xs → (x : List ℕ) → length x ≡ 32 → Sized (xs ++ (x ∷ []))
sized_snoc none x e = one e none
sized_snoc (one h s) x e = one h (sized_snoc s x e)

flat_size : {xs : List (List ℕ)} → Sized xs → length (flat xs) ≡ 32 * length xs
unfolding flat
flat_size none = refl
flat_size (one {x} {xs} h s) = length-append x (flat xs) ∙ omega (arith, flat_size s)

flat_node : {xs : List (List ℕ)} → Sized xs → (j : ℕ) → j < length xs → node_of (flat xs) j ≡ get_or xs j []
unfolding flat node_of part
flat_node none j lt = absurd (omega arith)
flat_node (one {x} {xs} h s) zero lt = take_at x (flat xs) 32 h
flat_node (one {x} {xs} h s) (suc j) lt =
    let e : 32 * suc j ≡ length x + 32 * j = omega arith in
    ap (λ (k : ℕ). take 32 (drop k (x ++ flat xs))) e
    ∙ ap (λ (l : List ℕ). take 32 l) (drop-append-add x (flat xs) (32 * j))
    ∙ flat_node s j (omega arith)

module _ (H : List ℕ → List ℕ) (size : (s : List ℕ) → length (H s) ≡ 32) (fs : ℕ → List ℕ) where
  path_sized : (t : Tree) (i : ℕ) → Sized (path H fs t i)
  unfolding path pick
  path_sized (tip j) i = none
  path_sized (fork k l r) i =
      elim (ltb i k) as (λ b. Sized (pick b (path H fs l i ++ (root H fs r ∷ [])) (path H fs r i ++ (root H fs l ∷ [])))) [
        | true ↦ sized_snoc (path_sized l i) (root H fs r) (root_size H size fs r)
        | false ↦ sized_snoc (path_sized r i) (root H fs l) (root_size H size fs l)
      ]

  pub flat_length : (t : Tree) (i : ℕ) → length (flat (path H fs t i)) ≡ 32 * depth t i
  flat_length t i = flat_size (path_sized t i) ∙ ap (λ (k : ℕ). 32 * k) (length_path H fs t i)

  pub path_node : (t : Tree) (i j : ℕ) → j < depth t i → node_of (flat (path H fs t i)) j ≡ get_or (path H fs t i) j []
  path_node t i j lt = flat_node (path_sized t i) j (rw (length_path H fs t i) lt)
