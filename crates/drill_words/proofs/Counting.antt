-- Bytes counted and hex digits looked at, as a chain says it; turns of the loops that read numbers and hex.
use Rattle.std.proofs.Common.{zero-add}
use mathlib.Core.Path.{◌≡◌, refl, ap}
use Prim.Native.Nat.{ℕ, suc, ◌+◌, ◌-◌, ◌*◌, ◌/◌, ◌%◌, ◌≤◌, ◌<◌}
use mathlib.Core.List.{List, [], ◌∷◌}
use mathlib.Core.Bool.{Bool, true, false, ◌&&◌, cond}
use native.Mathlib.Omega.{arith}
use native.Mathlib.Numerals.{add-one}
use lib.Dec.{eqb, leb, ltb}
use lib.ListN.{length, get_or, drop, drop_of_length-le}
use lib.Seq.{drop-cons}
use Rattle.std.specs.List.{count_by, list_all}
use Rattle.std.proofs.lemmas.List.Recursion.{is_count_by}
use Rattle.octets.specs.Bytes.{pick}
use Rattle.octets.specs.Sets.{bit}
use Rattle.drill_words.specs.Words.{how_many}
use Rattle.drill_words.specs.Numbers.{with_digit, value_of, hex_digit, hex_digits, from_hex}

count_case : (b : Bool) (n : ℕ) → bit b + n ≡ cond b (1 + n) n
count_case true n = refl
count_case false n = zero-add n

pub count_is : (c : ℕ) (l : List ℕ) → how_many c l ≡ count_by (λ x. eqb x c) l
unfolding how_many
count_is c = is_count_by (how_many c) (λ x. eqb x c) refl (λ x xs. count_case (eqb x c) (how_many c xs))

pub digits_are : (l : List ℕ) → hex_digits l ≡ list_all (λ x. ltb (hex_digit x) 16) l
unfolding hex_digits
digits_are [] = refl
digits_are (x ∷ xs) = ap (λ b. ltb (hex_digit x) 16 && b) (digits_are xs)

-- what is no number, or has five digits, stays so
over_case : (a b : Bool) (n : ℕ) → pick (a && (b && false)) n 10000 ≡ 10000
unfolding pick
over_case true true n = refl
over_case true false n = refl
over_case false b n = refl

over_digit : (x : ℕ) → with_digit 10000 x ≡ 10000
unfolding with_digit
over_digit x = over_case (leb 48 x) (leb x 57) (10000 * 10 + (x - 48))

pub value_over : (l : List ℕ) → value_of 10000 l ≡ 10000
unfolding value_of
value_over [] = refl
value_over (x ∷ xs) = rw (over_digit x) (value_over xs)

module _ (s : List ℕ) (i : ℕ) where
  pub value_turn : (v : ℕ) → i < length s → value_of v (drop i s) ≡ value_of (with_digit v (get_or s i 0)) (drop (i + 1) s)
  unfolding value_of
  value_turn v h = rw (drop-cons s i 0, add-one i)

  pub value_end : (v : ℕ) → length s ≤ i → value_of v (drop i s) ≡ v
  unfolding value_of
  value_end v h = rw drop_of_length-le

  pub bytes_turn : i + 1 < length s → from_hex (drop i s) ≡ (hex_digit (get_or s i 0) * 16 + hex_digit (get_or s (i + 1) 0)) % 256 ∷ from_hex (drop (i + 2) s)
  unfolding from_hex
  bytes_turn h =
      let e : i + 2 ≡ suc (suc i) = omega arith in
      let f : i + 1 ≡ suc i = omega arith in
      rw (drop-cons s i 0 (omega arith), drop-cons s (suc i) 0 (omega arith), e, f)

-- two digits a byte; what is left over gives none
pub bytes_length : (l : List ℕ) → length (from_hex l) ≡ length l / 2
unfolding from_hex
bytes_length [] = refl
bytes_length (a ∷ []) = refl
bytes_length (a ∷ b ∷ xs) = let e = bytes_length xs in omega arith

pub bytes_none : (l : List ℕ) → length l < 2 → from_hex l ≡ []
unfolding from_hex
bytes_none [] h = refl
bytes_none (a ∷ []) h = refl
bytes_none (a ∷ b ∷ xs) h = absurd (omega arith)
