-- A rule for all numbers below a bound, proved by one test that antt computes.
-- Assumes nothing.
use mathlib.Core.Path.{subst, sym}
use mathlib.Core.Bool.{Bool, true, false}
use mathlib.Core.Logic.{⊎_elim}
use Prim.Native.Nat.{ℕ, zero, suc, ◌<◌}
use native.Mathlib.Nat.{not-suc-le-zero, eq-or-lt_of_le, le_of_suc-le-suc}
use lib.Dec.{T}

abbrev pub both : Bool → Bool → Bool
both true b = b
both false b = false

pub both_left : (a b : Bool) → T (both a b) → T a
both_left true b t = tt
both_left false b t = t

pub both_right : (a b : Bool) → T (both a b) → T b
both_right true b t = t
both_right false b t = absurd t

-- the test f passes at each number below n
abbrev pub all : (ℕ → Bool) → ℕ → Bool
all f zero = true
all f (suc n) = both (f n) (all f n)

pub below : (f : ℕ → Bool) (n : ℕ) → T (all f n) → (k : ℕ) → k < n → T (f k)
below f zero t k h = absurd (not-suc-le-zero h)
below f (suc n) t k h =
    ⊎_elim (λ e. subst (λ (m : ℕ). T (f m)) (sym e) (both_left (f n) (all f n) t))
    (λ l. below f n (both_right (f n) (all f n) t) k l) (eq-or-lt_of_le (le_of_suc-le-suc h))

-- a number below 2 is 0 or 1
pub bit_cases {ℓ} : (P : ℕ → Type ℓ) → P 0 → P 1 → (x : ℕ) → x < 2 → P x
bit_cases P p q zero h = p
bit_cases P p q (suc zero) h = q
bit_cases P p q (suc (suc x)) h = absurd (not-suc-le-zero (le_of_suc-le-suc (le_of_suc-le-suc h)))
