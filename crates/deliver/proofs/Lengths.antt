-- Whether fragments have one length, a board after the other.
-- Assumes nothing.
use mathlib.Core.Path.{◌≡◌, refl, ap, ◌∙◌}
use mathlib.Core.Bool.{Bool, true, false, ◌&&◌}
use mathlib.Core.List.{List, [], ◌∷◌}
use Prim.Native.Nat.{ℕ, zero, suc, ◌+◌, ◌<◌, ◌≤◌}
use native.Mathlib.Omega.{arith}
use native.Mathlib.Numerals.{add-one}
use borrow.Author.Tests.{eq-eqb, ne_eqb, eqb-true}
use lib.Dec.{eqb}
use lib.ListN.{length, get_or, drop, drop_of_length-le}
use lib.Seq.{drop-cons}
use Rattle.octets.proofs.Picks.{and_l, and_r, and_on}
use Rattle.deliver.specs.Delivered.{all_of_length}

module _ (len : ℕ) (xs : List ℕ) (fragment : ℕ → List ℕ) where
  head_of : (i : ℕ) → i < length xs → all_of_length len (drop i xs) fragment ≡ eqb (length (fragment (get_or xs i 0))) len && all_of_length len (drop (i + 1) xs) fragment
  unfolding all_of_length
  head_of i h = rw (add-one, drop-cons xs i 0 h)

  pub lengths_on : (i : ℕ) → i < length xs → length (fragment (get_or xs i 0)) ≡ len → all_of_length len (drop i xs) fragment ≡ all_of_length len (drop (i + 1) xs) fragment
  lengths_on i h e = head_of i h ∙ ap (λ (c : Bool). c && all_of_length len (drop (i + 1) xs) fragment) (eq-eqb _ _ e)

  pub lengths_off : (i : ℕ) → i < length xs → (length (fragment (get_or xs i 0)) ≡ len → ⊥) → all_of_length len (drop i xs) fragment ≡ false
  lengths_off i h e = head_of i h ∙ ap (λ (c : Bool). c && all_of_length len (drop (i + 1) xs) fragment) (ne_eqb _ _ e)

  pub lengths_end : (i : ℕ) → length xs ≤ i → all_of_length len (drop i xs) fragment ≡ true
  unfolding all_of_length
  lengths_end i h = ap (λ (l : List ℕ). all_of_length len l fragment) (drop_of_length-le xs h)

-- at each place
pub lengths_at : (len : ℕ) (xs : List ℕ) (fragment : ℕ → List ℕ) → all_of_length len xs fragment ≡ true → (i : ℕ) → i < length xs → length (fragment (get_or xs i 0)) ≡ len
unfolding all_of_length
lengths_at len [] fragment e i h = absurd (omega arith)
lengths_at len (x ∷ xs) fragment e zero h = eqb-true _ _ (and_l _ (all_of_length len xs fragment) e)
lengths_at len (x ∷ xs) fragment e (suc i) h = lengths_at len xs fragment (and_r (eqb (length (fragment x)) len) _ e) i (omega arith)

pub at_lengths : (len : ℕ) (xs : List ℕ) (fragment : ℕ → List ℕ) → ((i : ℕ) → i < length xs → length (fragment (get_or xs i 0)) ≡ len) → all_of_length len xs fragment ≡ true
unfolding all_of_length
at_lengths len [] fragment f = refl
at_lengths len (x ∷ xs) fragment f = and_on _ _ (eq-eqb _ _ (f 0 (omega arith))) (at_lengths len xs fragment (λ i h. f (suc i) (omega arith)))
