-- How many strings are hashed: no more than the written definitions say, so that no string can be called hashed that was not.
use Prim.Native.Nat.{ℕ, suc, ◌+◌, ◌-◌, ◌*◌, ◌≤◌, ◌<◌}
use mathlib.Core.Bool.{Bool, true, false}
use mathlib.Core.Path.{◌≡◌, refl, sym, ◌∙◌, ap}
use mathlib.Core.List.{List, [], ◌∷◌}
use native.Mathlib.Omega.{arith}
use lib.Dec.{ltb, eqb, eqb→eq}
use lib.ListN.{length, length-append}
use Rattle.octets.specs.Bytes.{pick}
use Rattle.octets.proofs.Below.{below}
use Rattle.sha256.specs.Sha256.{sha256}
use Rattle.tree.specs.Tree.{Tree, tip, fork, tree, tree_of, half, doubled, depth}
use Rattle.tree.specs.Check.{node_of}
use Rattle.tree.specs.Strings.{hashed, climbed, check_strings, tree_strings}
use Rattle.tree.proofs.Checks.{depth_small}

one_more : (c : Bool) (x y : List ℕ) (xs ys : List (List ℕ)) (a b : ℕ) → length xs ≡ suc a → length ys ≡ suc b
    → length (pick c (x ∷ xs) (y ∷ ys)) ≡ suc (pick c (a + 1) (b + 1))
unfolding pick
one_more true x y xs ys a b h g = omega arith
one_more false x y xs ys a b h g = omega arith

-- a climb hashes the leaf, and a node for each level
climbed_length : (ps : ℕ → List ℕ) (t : Tree) (i : ℕ) (f : List ℕ) → length (climbed sha256 ps t i f) ≡ suc (depth t i)
unfolding climbed depth pick
climbed_length ps (tip j) i f = refl
climbed_length ps (fork k l r) i f =
    one_more (ltb i k) _ _ (climbed sha256 ps l i f) (climbed sha256 ps r i f) (depth l i) (depth r i) (climbed_length ps l i f) (climbed_length ps r i f)

few_picked : (c : Bool) (xs : List (List ℕ)) (m : ℕ) → length xs ≤ m → length (pick c xs []) ≤ m
unfolding pick
few_picked true xs m h = h
few_picked false xs m h = omega arith

-- a path check hashes at most 7 strings
pub check_few : (n i : ℕ) (p f : List ℕ) → n ≤ 64 → 1 ≤ i → i ≤ n → length (check_strings n i p f) ≤ 7
unfolding check_strings
check_few n i p f few low high =
    few_picked (eqb (length p) (32 * depth (tree_of n) (i - 1))) (climbed sha256 (node_of p) (tree_of n) (i - 1) f) 7
    (omega (arith, climbed_length (node_of p) (tree_of n) (i - 1) f, depth_small n (i - 1) few (omega arith)))

-- ---- a tree hashes a string for each leaf and each node

leaves : Tree → ℕ
leaves (tip j) = 1
leaves (fork k l r) = leaves l + leaves r

hashed_length : (fs : ℕ → List ℕ) (t : Tree) → length (hashed sha256 fs t) + 1 ≡ 2 * leaves t
unfolding hashed leaves
hashed_length fs (tip j) = refl
hashed_length fs (fork k l r) =
    let a = hashed_length fs l in
    let b = hashed_length fs r in
    omega (arith, length-append (hashed sha256 fs l) (hashed sha256 fs r))

-- the tree over n leaves has n of them: one test over all counts
leaves_of : (n : ℕ) → n < 64 → leaves (tree_of (n + 1)) ≡ n + 1
unfolding leaves tree_of tree half doubled pick
leaves_of n h = eqb→eq (leaves (tree_of (n + 1))) (n + 1) (below (λ (n : ℕ). eqb (leaves (tree_of (n + 1))) (n + 1)) 64 tt n h)

-- an encoding hashes exactly 2n - 1 strings
pub tree_strings_lem : (n : ℕ) (fs : ℕ → List ℕ) → 1 ≤ n → n ≤ 64 → length (tree_strings n fs) + 1 ≡ 2 * n
unfolding tree_strings
tree_strings_lem n fs low high =
    let e : n - 1 + 1 ≡ n = omega arith in
    let l : leaves (tree_of n) ≡ n = ap (λ (k : ℕ). leaves (tree_of k)) (sym e) ∙ leaves_of (n - 1) (omega arith) ∙ e in
    omega (arith, hashed_length fs (tree_of n))
