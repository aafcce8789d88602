-- Laws of sums.
-- Assumes nothing.
use mathlib.Core.Path.{◌≡◌, refl, sym, ap, ap₂, ◌∙◌}
use mathlib.Core.Logic.{◌≢◌, ⊎_elim}
use Prim.Native.Nat.{ℕ, zero, suc, ◌<◌}
use native.Mathlib.Nat as N
use native.Mathlib.Omega.{arith}
use Rattle.field.specs.Field.{add, mul}
use Rattle.field.proofs.Laws as L
use Rattle.code_sum.specs.Sums.{total}

pub total_same : (f g : ℕ → ℕ) (n : ℕ) → ((j : ℕ) → j < n → f j ≡ g j) → total f n ≡ total g n
unfolding total
total_same f g zero h = refl
total_same f g (suc n) h = ap₂ add (total_same f g n (λ j b. h j (omega arith))) (h n (omega arith))

pub total_zero : (f : ℕ → ℕ) (n : ℕ) → ((j : ℕ) → j < n → f j ≡ 0) → total f n ≡ 0
unfolding total
total_zero f zero h = refl
total_zero f (suc n) h = ap₂ add (total_zero f n (λ j b. h j (omega arith))) (h n (omega arith)) ∙ L.add_self 0

pub total_add : (f g : ℕ → ℕ) (n : ℕ) → add (total f n) (total g n) ≡ total (λ j. add (f j) (g j)) n
unfolding total
total_add f g zero = L.add_self 0
total_add f g (suc n) = L.add_swap (total f n) (f n) (total g n) (g n) ∙ ap (λ (t : ℕ). add t (add (f n) (g n))) (total_add f g n)

pub total_mul : (z : ℕ) (f : ℕ → ℕ) (n : ℕ) → mul z (total f n) ≡ total (λ j. mul z (f j)) n
unfolding total
total_mul z f zero = L.zero_mul_r z
total_mul z f (suc n) = L.mul_add z (total f n) (f n) ∙ ap (λ (t : ℕ). add t (mul z (f n))) (total_mul z f n)

pub total_lt : (f : ℕ → ℕ) (n : ℕ) → ((j : ℕ) → f j < 256) → total f n < 256
unfolding total
total_lt f zero h = omega arith
total_lt f (suc n) h = L.add_lt (total f n) (f n) (total_lt f n h) (h n)

-- all terms but one are zero
pub total_one : (f : ℕ → ℕ) (n i : ℕ) → i < n → ((j : ℕ) → j < n → j ≢ i → f j ≡ 0) → total f n ≡ f i
unfolding total
total_one f zero i h z = absurd (omega arith)
total_one f (suc n) i h z =
    ⊎_elim (λ e. ap₂ add (total_zero f n (λ j b. z j (omega arith) (λ q. omega arith))) (ap f (sym e)) ∙ L.zero_add (f i))
    (λ l. ap₂ add (total_one f n i l (λ j b. z j (omega arith))) (z n (omega arith) (λ q. omega arith)) ∙ L.add_zero (f i))
    (N.eq-or-lt_of_le (N.le_of_suc-le-suc h))
