-- A quorum is a number of ones: the count of a set of boards that is kept as a number.
use Prim.Native.Nat.{ℕ, zero, suc, ◌+◌, ◌/◌, ◌%◌, ◌^◌, ◌<◌}
use native.Mathlib.Omega.{arith}
use native.Mathlib.Nat.{add-zero, mod-lt, zero-lt-suc}
use native.Mathlib.Numerals.{add-one}
use mathlib.Core.Bool.{Bool}
use mathlib.Core.Path.{◌≡◌, refl, subst, sym, ◌∙◌, ap}
use lib.Dec.{eqb}
use lib.Pow.{shr_lt}
use lib.Count.{ones, ones_step}
use lib.Arith.{lt-one}
use Rattle.octets.specs.Sets.{bit, has, set_of}
use Rattle.line.specs.Boards.{count}
use Rattle.octets.proofs.Members.{has_half, has_lowest, ones_bit}

-- counted from the lowest board
count_low : (p : ℕ → Bool) (n : ℕ) → count p (suc n) ≡ bit (p 1) + count (λ i. p (suc i)) n
unfolding count
count_low p zero = refl
count_low p (suc n) = omega (arith, count_low p n)

bit_odd : (x : ℕ) → x < 2 → bit (eqb x 1) ≡ x
bit_odd zero h = refl
bit_odd (suc zero) h = refl
bit_odd (suc (suc x)) h = absurd (omega arith)

-- the boards in p are those of a set, board i + 1 at digit i
pub count_ones : (p : ℕ → Bool) (n set : ℕ) → set < 2 ^ n → ((i : ℕ) → p (suc i) ≡ has set i) → count p n ≡ ones set
unfolding count ones
count_ones p zero set h e = ap ones (sym (lt-one h))
count_ones p (suc n) set h e =
    count_low p n
    ∙ ap (λ (x : ℕ). bit (p 1) + x) (count_ones (λ i. p (suc i)) n (set / 2) (shr_lt n 1 (subst (λ k. set < 2 ^ k) (sym (add-one n)) h)) (λ i. e (suc i) ∙ has_half set i))
    ∙ ap (λ (x : ℕ). x + ones (set / 2)) (ap bit (e 0 ∙ has_lowest set) ∙ bit_odd (set % 2) (mod-lt set (zero-lt-suc 1)))
    ∙ sym (ones_step set)

-- the boards in p are those of a set that a test made
pub ones_set_of : (P p : ℕ → Bool) (a m : ℕ) → ((i : ℕ) → p (suc i) ≡ P (a + i)) → ones (set_of P a m) ≡ count p m
unfolding set_of count ones
ones_set_of P p a zero h = refl
ones_set_of P p a (suc m) h =
    ones_bit (P a) (set_of P (a + 1) m)
    ∙ ap (λ (x : ℕ). bit (P a) + x) (ones_set_of P (λ i. p (suc i)) (a + 1) m (λ i. h (suc i) ∙ ap P (let z : a + suc i ≡ a + 1 + i = omega arith in z)))
    ∙ ap (λ (x : ℕ). x + count (λ i. p (suc i)) m) (ap bit (sym (h 0 ∙ ap P (add-zero a))))
    ∙ sym (count_low p m)
