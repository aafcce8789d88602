-- The first number of which a test holds: turns of its loop, and what it is where there is none.
-- Assumes nothing.
use mathlib.Core.Path.{◌≡◌, refl, sym, ap, ◌∙◌}
use mathlib.Core.Bool.{Bool, true, false, not, ◌&&◌, ◌||◌}
use mathlib.Core.List.{List}
use mathlib.Core.Logic.{◌⊎◌, inl, inr, ⊎_elim}
use Prim.Native.Nat.{ℕ, zero, suc, ◌+◌, ◌-◌, ◌*◌, ◌/◌, ◌%◌, ◌^◌, ◌≤◌, ◌<◌}
use native.Mathlib.Nat as N
use lib.Count.{ones, ones-le}
use native.Mathlib.Omega.{arith}
use Rattle.octets.specs.Bytes.{pick}
use lib.Dec.{leb, eqb}
use Rattle.octets.proofs.Walk.{lt_or_le}
use Rattle.octets.proofs.Picks.{or_none_l, or_none_r}
use Rattle.octets.specs.Sets.{has, some}
use Rattle.code_calls.specs.Rebuilding.{first_of, length_at, some_outside}

module _ (P : ℕ → Bool) (i n : ℕ) where
  pub first_on : i < n → P i ≡ true → first_of P i (n - i) ≡ i
  unfolding first_of pick
  first_on h p = let e : n - i ≡ suc (n - (i + 1)) = omega arith in rw (e, p)

  pub first_off : i < n → P i ≡ false → first_of P i (n - i) ≡ first_of P (i + 1) (n - (i + 1))
  unfolding first_of pick
  first_off h p = let e : n - i ≡ suc (n - (i + 1)) = omega arith in rw (e, p)

  pub first_end : n ≤ i → first_of P i (n - i) ≡ i
  unfolding first_of
  first_end h = let e : n - i ≡ zero = omega arith in rw e

first_high : (P : ℕ → Bool) (a m : ℕ) → a ≤ first_of P a m
unfolding first_of pick
first_high P a zero = omega arith
first_high P a (suc m) = go (P a) (first_high P (a + 1) m)
  where
    go : (b : Bool) → a + 1 ≤ first_of P (a + 1) m → a ≤ pick b a (first_of P (a + 1) m)
    go true h = omega arith
    go false h = omega arith

-- where there is none, no test that needs it holds either
pub none_holds : (P Q : ℕ → Bool) (a m : ℕ) → a + m ≤ first_of P a m → some (λ i. P i && Q i) a m ≡ false
unfolding first_of pick some
none_holds P Q a zero h = refl
none_holds P Q a (suc m) h = go (P a) h (none_holds P Q (a + 1) m)
  where
    go : (b : Bool) → a + suc m ≤ pick b a (first_of P (a + 1) m) → (a + 1 + m ≤ first_of P (a + 1) m → some (λ i. P i && Q i) (a + 1) m ≡ false)
        → (b && Q a) || some (λ i. P i && Q i) (a + 1) m ≡ false
    go true h f = absurd (omega arith)
    go false h f = f (omega arith)

-- so the lengths of no marked board differ
pub no_lengths : (n lo hi marked : ℕ) (lengths : List ℕ) → n ≤ first_of (has marked) 0 n → some_outside n lo hi marked lengths ≡ false
unfolding some_outside
no_lengths n lo hi marked lengths h =
    none_holds (has marked) (λ i. not (leb lo (length_at lengths i) && leb (length_at lengths i) hi)) 0 n (omega arith)

-- the first one of which P holds is one
pub first_holds : (P : ℕ → Bool) (a m : ℕ) → first_of P a m < a + m → P (first_of P a m) ≡ true
unfolding first_of pick
first_holds P a zero h = absurd (omega arith)
first_holds P a (suc m) h = go (P a) refl h (first_holds P (a + 1) m)
  where
    go : (b : Bool) → P a ≡ b → pick b a (first_of P (a + 1) m) < a + suc m → (first_of P (a + 1) m < a + 1 + m → P (first_of P (a + 1) m) ≡ true)
        → P (pick b a (first_of P (a + 1) m)) ≡ true
    go true e h f = e
    go false e h f = f (omega arith)

-- where P holds of none, it does not hold of each
pub some_at : (P : ℕ → Bool) (a m : ℕ) → some P a m ≡ false → (i : ℕ) → a ≤ i → i < a + m → P i ≡ false
unfolding some
some_at P a zero e i h g = absurd (omega arith)
some_at P a (suc m) e i h g =
    ⊎_elim (λ (q : a ≡ i). ap P (sym q) ∙ or_none_l (P a) (some P (a + 1) m) e)
    (λ (l : a < i). some_at P (a + 1) m (or_none_r (P a) (some P (a + 1) m) e) i (omega arith) (omega arith)) (N.eq-or-lt_of_le h)

-- a set of boards up to n that has none of them is empty
pub empty_set : (n x : ℕ) → x / 2 ^ n ≡ 0 → ((i : ℕ) → i < n → has x i ≡ false) → x ≡ 0
unfolding has
empty_set zero x e h = sym (N.div-one x) ∙ e
empty_set (suc n) x e h =
    let low : x % 2 ≡ 0 = even (x % 2) (N.mod-lt x (N.zero-lt-suc 1)) (ap (λ (y : ℕ). eqb (y % 2) 1) (sym (N.div-one x)) ∙ h 0 (omega arith)) in
    let high : x / 2 ≡ 0 = empty_set n (x / 2) (N.div-div-eq-div-mul x 2 (2 ^ n) ∙ ap (λ (y : ℕ). x / y) (two_pow n) ∙ e)
    (λ i g. ap (λ (y : ℕ). eqb (y % 2) 1) (N.div-div-eq-div-mul x 2 (2 ^ i) ∙ ap (λ (y : ℕ). x / y) (two_pow i)) ∙ h (suc i) (omega arith)) in
    omega arith
  where
    even : (y : ℕ) → y < 2 → eqb y 1 ≡ false → y ≡ 0
    even zero g q = refl
    even (suc zero) g q = absurd (let z : ◌≡◌ {A = ℕ} 0 1 = cc in omega arith)
    even (suc (suc y)) g q = absurd (omega arith)

    two_pow : (i : ℕ) → 2 * 2 ^ i ≡ 2 ^ suc i
    two_pow i = omega (arith, N.pow-suc 2 i)

none_in_zero : ones 0 ≡ 0
none_in_zero = N.le_antisymm (ones-le 0 0 (omega arith)) (omega arith)

-- so where some are marked, up to n, one of them is the first
pub first_marked : (n x : ℕ) → x / 2 ^ n ≡ 0 → 0 < ones x → first_of (has x) 0 n < n
first_marked n x e h = go (lt_or_le (first_of (has x) 0 n) n)
  where
    none : n ≤ first_of (has x) 0 n → (i : ℕ) → i < n → has x i ≡ false
    none l i g = only (has x i) (some_at (λ (i : ℕ). has x i && true) 0 n (none_holds (has x) (λ _. true) 0 n (omega arith)) i (omega arith) (omega arith))
      where
        only : (b : Bool) → b && true ≡ false → b ≡ false
        only true q = q
        only false q = refl

    go : (first_of (has x) 0 n < n) ⊎ (n ≤ first_of (has x) 0 n) → first_of (has x) 0 n < n
    go (inl l) = l
    go (inr l) = absurd (let z : ones x ≡ ones 0 = ap ones (empty_set n x e (none l)) in let o = none_in_zero in omega arith)
