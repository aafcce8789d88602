-- Turns of the loops over `set_of`, `every` and `some`.
use mathlib.Core.Path.{◌≡◌}
use Prim.Native.Nat.{ℕ, zero, suc, ◌+◌, ◌-◌, ◌*◌, ◌^◌, ◌≤◌, ◌<◌}
use mathlib.Core.Bool.{Bool, true, false}
use mathlib.Core.Logic.{⊎_elim}
use native.Mathlib.Nat as N
use native.Mathlib.Omega.{arith}
use Rattle.octets.proofs.Picks.{and_l, and_r}
use native.Mathlib.Nat.{pow-suc, lt_of_lt_of_le}
use lib.Pow.{pow_mono}
use Rattle.octets.specs.Sets.{every, some, set_of, bit}

bit_le : (b : Bool) → bit b ≤ 1
bit_le true = omega arith
bit_le false = omega arith

pub set_of_lt : (P : ℕ → Bool) (a m : ℕ) → set_of P a m < 2 ^ m
unfolding set_of
set_of_lt P a zero = omega arith
set_of_lt P a (suc m) = omega (arith, set_of_lt P (a + 1) m, bit_le (P a), pow-suc 2 m)

pub set_of_small : (P : ℕ → Bool) (i n : ℕ) → 0 < i → n ≤ 64 → set_of P i (n - i) < 9223372036854775808
set_of_small P i n h k = lt_of_lt_of_le (set_of_lt P i (n - i)) (pow_mono {j = 63} (omega arith))

pub set_of_turn : (P : ℕ → Bool) (i n : ℕ) → 0 < i → i ≤ n → set_of P i (n - i) * 2 + bit (P (i - 1)) ≡ set_of P (i - 1) (n - (i - 1))
unfolding set_of
set_of_turn P i n h k =
    let e : n - (i - 1) ≡ suc (n - i) = omega arith in
    let f : i - 1 + 1 ≡ i = omega arith in
    rw (e, f) (omega arith)

pub set_of_none : (P : ℕ → Bool) (i n : ℕ) → n ≤ i → set_of P i (n - i) ≡ 0
unfolding set_of
set_of_none P i n h = let e : n - i ≡ zero = omega arith in rw e

-- a loop over i < n that stops at the first i of which P does not hold, or holds
module _ (P : ℕ → Bool) (i n : ℕ) where
  pub every_on : i < n → P i ≡ true → every P i (n - i) ≡ every P (i + 1) (n - (i + 1))
  unfolding every
  every_on h p = let e : n - i ≡ suc (n - (i + 1)) = omega arith in rw (e, p)

  pub every_off : i < n → P i ≡ false → every P i (n - i) ≡ false
  unfolding every
  every_off h p = let e : n - i ≡ suc (n - (i + 1)) = omega arith in rw (e, p)

  pub every_end : n ≤ i → every P i (n - i) ≡ true
  unfolding every
  every_end h = let e : n - i ≡ zero = omega arith in rw e

  pub some_on : i < n → P i ≡ true → some P i (n - i) ≡ true
  unfolding some
  some_on h p = let e : n - i ≡ suc (n - (i + 1)) = omega arith in rw (e, p)

  pub some_off : i < n → P i ≡ false → some P i (n - i) ≡ some P (i + 1) (n - (i + 1))
  unfolding some
  some_off h p = let e : n - i ≡ suc (n - (i + 1)) = omega arith in rw (e, p)

  pub some_end : n ≤ i → some P i (n - i) ≡ false
  unfolding some
  some_end h = let e : n - i ≡ zero = omega arith in rw e

-- from 0 on, all n
pub whole {ℓ} : {X : Type ℓ} (f : ℕ → ℕ → X) (i n : ℕ) → i ≤ 0 → f i (n - i) ≡ f 0 n
whole f i n h = let e : i ≡ 0 = omega arith in let d : n - i ≡ n = omega arith in rw (d, e)

-- what holds of all holds of each
pub every_at : (P : ℕ → Bool) (a m : ℕ) → every P a m ≡ true → (k : ℕ) → a ≤ k → k < a + m → P k ≡ true
unfolding every
every_at P a zero e k ge lt = absurd (omega arith)
every_at P a (suc m) e k ge lt =
    ⊎_elim (λ q. rw (← q) (and_l (P a) (every P (a + 1) m) e))
    (λ g. every_at P (a + 1) m (and_r (P a) (every P (a + 1) m) e) k (omega arith) (omega arith))
    (N.eq-or-lt_of_le {n = a} {m = k} ge)
