-- Two lists that the test calls the same are equal, and the other way round.
-- Assumes nothing.
use mathlib.Core.Path.{◌≡◌, refl, ap, ◌∙◌}
use Rattle.std.specs.Cmp.Lexicographic.{pointwise}
use mathlib.Core.Bool.{true, ◌&&◌, Bool}
use mathlib.Core.List.{List, [], ◌∷◌}
use Prim.Native.Nat.{ℕ, ◌<◌}
use native.Mathlib.Nat as N
use native.Mathlib.Omega.{arith}
use borrow.Author.Tests.{eqb-true, eq-eqb}
use lib.Dec.{eqb}
use lib.ListN.{get_or}
use Rattle.octets.specs.Bytes.{part, same}
use Rattle.octets.proofs.Parts.{get_d_part}
use Rattle.octets.proofs.Picks.{and_l, and_r}

-- what `==` tells of two slices
pub same_pointwise : (s r : List ℕ) → pointwise eqb s r ≡ same s r
unfolding same
same_pointwise [] [] = refl
same_pointwise [] (y ∷ r) = refl
same_pointwise (x ∷ s) [] = refl
same_pointwise (x ∷ s) (y ∷ r) = ap (λ (t : Bool). eqb x y && t) (same_pointwise s r)

pub same_self : (s : List ℕ) → same s s ≡ true
unfolding same
same_self [] = refl
same_self (x ∷ s) = rw (eq-eqb x x refl) (same_self s)

pub same_equal : (s r : List ℕ) → same s r ≡ true → s ≡ r
unfolding same
same_equal [] [] e = refl
same_equal [] (y ∷ r) e = absurd (let z : ◌≡◌ {A = ℕ} 0 1 = cc in omega arith)
same_equal (x ∷ s) [] e = absurd (let z : ◌≡◌ {A = ℕ} 0 1 = cc in omega arith)
same_equal (x ∷ s) (y ∷ r) e =
    let head : x ≡ y = eqb-true x y (and_l (eqb x y) (same s r) e) in
    rw head (ap (λ (l : List ℕ). y ∷ l) (same_equal s r (and_r (eqb x y) (same s r) e)))

-- the n bytes from the front that are the same as those from b on, one by one
module _ (s r : List ℕ) (b n : ℕ) where
  front : (i : ℕ) → i < n → get_or (part 0 n s) i 0 ≡ get_or s i 0
  front i h = get_d_part 0 n i s h ∙ ap (λ (p : ℕ). get_or s p 0) (N.zero-add i)
