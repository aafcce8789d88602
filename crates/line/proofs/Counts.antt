-- Counts of boards: two large sets meet, and a set of more than t boards has a board that keeps the rules.
use Prim.Native.Nat.{ℕ, zero, suc, ◌+◌, ◌-◌, ◌*◌, ◌≤◌, ◌<◌, min, zero-le}
use native.Mathlib.Omega.{arith}
use native.Mathlib.Nat.{le_refl}
use mathlib.Core.Bool.{Bool, true, false, not, ◌&&◌}
use mathlib.Core.Path.{◌≡◌, refl, subst, sym}
use mathlib.Core.Logic.{◌⊎◌, inl, inr}
use lib.Dec.{T, T_not, ltb, leb, ltb→lt, leb→le, lt→ltb, le→leb}
use native.Mathlib.Decide.{ℕ_discrete, dec_le}
use borrow.Author.Tests.{lt-ltb, lt-leb}
use Rattle.octets.specs.Sets.{bit}
use Rattle.octets.proofs.Picks.{is_true}
use Rattle.line.specs.Boards.{count, Board, known, Keepers}
use Rattle.line.proofs.Tests.{both, left, right, truth}

-- ---- counts

pub bit_zero : (b : Bool) → T (not b) → bit b ≡ 0
bit_zero true s = absurd s
bit_zero false s = refl

pub bit_le : (a b : Bool) → (T a → T b) → bit a ≤ bit b
bit_le true true f = le_refl 1
bit_le true false f = absurd (f tt)
bit_le false b f = zero-le

bit_meet : (a b : Bool) → bit a + bit b ≤ 1 + bit (a && b)
bit_meet true true = omega arith
bit_meet true false = omega arith
bit_meet false true = omega arith
bit_meet false false = omega arith

bit_not : (a : Bool) → bit a + bit (not a) ≡ 1
bit_not true = refl
bit_not false = refl

pub top : {n : ℕ} → Board (suc n) (suc n)
top = record { low = omega arith; high = omega arith }

pub up : {n i : ℕ} → Board n i → Board (suc n) i
up b = record { low = b.low; high = omega arith }

pub is_known : {n i : ℕ} → Board n i → T (known n i)
is_known {n} {i} b = both (ltb 0 i) (leb i n) (lt→ltb 0 i b.low) (le→leb i n b.high)

pub known_is : {n i : ℕ} → T (known n i) → Board n i
known_is {n} {i} h = record { low = ltb→lt 0 i (left (ltb 0 i) (leb i n) h); high = leb→le i n (right (ltb 0 i) (leb i n) h) }

-- a larger set has a larger count
pub count_le : (p q : ℕ → Bool) (n : ℕ) → ((i : ℕ) → Board n i → T (p i) → T (q i)) → count p n ≤ count q n
unfolding count
count_le p q zero f = zero-le
count_le p q (suc n) f =
    omega (arith, bit_le (p (suc n)) (q (suc n)) (f (suc n) top), count_le p q n (λ i b. f i (up b)))

pub count_meet : (p q : ℕ → Bool) (n : ℕ) → count p n + count q n ≤ n + count (λ i. p i && q i) n
unfolding count
count_meet p q zero = zero-le
count_meet p q (suc n) = omega (arith, bit_meet (p (suc n)) (q (suc n)), count_meet p q n)

pub count_not : (p : ℕ → Bool) (n : ℕ) → count p n + count (λ i. not (p i)) n ≡ n
unfolding count
count_not p zero = refl
count_not p (suc n) = omega (arith, bit_not (p (suc n)), count_not p n)

pub count_none : (n : ℕ) → count (λ i. false) n ≡ 0
unfolding count
count_none zero = refl
count_none (suc n) = omega (arith, count_none n)

-- which boards are 1 to m, and how many of them are 1 to n
pub known_beyond : (m i : ℕ) → m < i → known m i ≡ false
known_beyond m i h = rw (lt-ltb 0 i (omega arith), lt-leb i m h)

pub count_known : (m n : ℕ) → count (known m) n ≡ min m n
unfolding count
count_known m zero = omega arith
count_known m (suc n) = elim (dec_le (suc n) m) [
  | yes h ↦ (
      let in_it : known m (suc n) ≡ true = is_true (known m (suc n)) (is_known (record { low = omega arith; high = h })) in
      rw in_it (omega (arith, count_known m n)))
  | no h ↦ rw (known_beyond m (suc n) (omega arith)) (omega (arith, count_known m n))
]

-- a set that is not empty has a member
pub count_find : (p : ℕ → Bool) (n : ℕ) → 0 < count p n → (i : ℕ) × Board n i × T (p i)
unfolding count
count_find p zero h = absurd (omega arith)
count_find p (suc n) h = go (count_find p n) (truth (p (suc n)))
  where
    go : (0 < count p n → (i : ℕ) × Board n i × T (p i)) → T (p (suc n)) ⊎ T (not (p (suc n)))
        → (i : ℕ) × Board (suc n) i × T (p i)
    go rest (inl t) = (suc n, top, t)
    go rest (inr f) =
        let (i, b, t) = rest (omega (arith, bit_zero (p (suc n)) f)) in
        (i, up b, t)

-- for each board of a set P, or C for some board
pub each_or : {C : Type 0} (p : ℕ → Bool) (P : ℕ → Type 0) (n : ℕ)
    → ((i : ℕ) → Board n i → T (p i) → P i ⊎ C) → ((i : ℕ) → Board n i → T (p i) → P i) ⊎ C
each_or p P zero f = inl (λ i b t. absurd (none b))
  where
    none : {i : ℕ} → Board zero i → ⊥
    none b = omega arith
each_or {C} p P (suc n) f = go (each_or p P n (λ i b t. f i (up b) t)) (truth (p (suc n)))
  where
    low : {i : ℕ} → Board (suc n) i → (i ≡ suc n → ⊥) → Board n i
    low b ne = record { low = b.low; high = omega arith }

    all : ((i : ℕ) → Board n i → T (p i) → P i) → (T (p (suc n)) → P (suc n)) → (i : ℕ) → Board (suc n) i → T (p i) → P i
    all g h i b t = elim (ℕ_discrete i (suc n)) [ yes e ↦ subst P (sym e) (h (subst (λ j. T (p j)) e t)) | no ne ↦ g i (low b ne) t ]

    go : ((i : ℕ) → Board n i → T (p i) → P i) ⊎ C → T (p (suc n)) ⊎ T (not (p (suc n))) → ((i : ℕ) → Board (suc n) i → T (p i) → P i) ⊎ C
    go (inr c) d = inr c
    go (inl g) (inr s) = inl (all g (λ t. absurd (T_not (p (suc n)) s t)))
    go (inl g) (inl t) = elim (f (suc n) top t) [ inl h ↦ inl (all g (λ u. h)) | inr c ↦ inr c ]

-- ---- the boards that keep the rules

-- the boards 1 to h may be those that do
pub first_keep : (n t h : ℕ) → 3 * t < n → n - t ≤ h → h ≤ n → Keepers n t (known h)
first_keep n t h third few most = record {
  third = third;
  known = λ i k. let b = known_is k in record { low = b.low; high = omega arith };
  few = omega (arith, count_not (known h) n, count_known h n);
}

module _ {n t : ℕ} {keeps : ℕ → Bool} (K : Keepers n t keeps) where
  pub many : n ≤ t + count keeps n
  many = omega (arith, count_not keeps n)

  -- of the boards in p all but t keep the rules
  pub most : (p : ℕ → Bool) → count p n ≤ t + count (λ i. keeps i && p i) n
  most p = omega (arith, many, count_meet keeps p n)

  -- of more than t boards one keeps the rules
  pub one_keeps : (p : ℕ → Bool) → t < count p n → (i : ℕ) × T (keeps i) × T (p i)
  one_keeps p h =
      let (i, b, s) = count_find (λ i. keeps i && p i) n (omega (arith, most p)) in
      (i, left (keeps i) (p i) s, right (keeps i) (p i) s)

  -- two sets of n - t boards share one that keeps the rules
  pub one_shared : (p q : ℕ → Bool) → n - t ≤ count p n → n - t ≤ count q n → (i : ℕ) × T (keeps i) × T (p i) × T (q i)
  one_shared p q g h =
      let (i, k, s) = one_keeps (λ i. p i && q i) (omega (arith, K.third, count_meet p q n)) in
      (i, k, left (p i) (q i) s, right (p i) (q i) s)
