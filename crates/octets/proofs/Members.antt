-- Laws of tests over a run of numbers and of sets of boards: bytes and tests that agree, how many boards are in a set, what one more adds.
-- Assumes nothing.
use mathlib.Core.Path.{◌≡◌, refl, sym, ap, ◌∙◌}
use Prim.Native.Nat.{ℕ, zero, suc, ◌+◌, ◌*◌, ◌/◌, ◌%◌, ◌^◌, ◌≤◌, ◌<◌}
use mathlib.Core.Bool.{Bool, true, false, ◌||◌}
use native.Mathlib.Omega.{arith}
use native.Mathlib.Nat.{div-one, zero-div, one-mul, mod-lt, zero-lt-suc, div-eq_of_lt, div-lt_iff_lt-mul, lt_of_lt_of_le}
use native.Mathlib.Numerals.{one-add}
use borrow.Author.Tests.{eqb-true, eq-eqb, ne_eqb}
use lib.Bits.{bit_or, or_shr, or_mod, or_lt, shifted_half, shifted_even}
use lib.Count.{ones, ones_step}
use lib.Dec.{eqb, eqb-suc-suc, eqb-zero-suc, eqb-suc-zero}
use lib.Pow.{shr-shr, pow-lt, pow_mono, pow_pos}
use lib.ListN.{length, get_or}
use lib.Seq.{ext_get_or}
use mathlib.Core.List.{List}
use Rattle.octets.specs.Bytes.{pick, part, two_at, four_at, eight_at}
use Rattle.octets.proofs.Laws.{length_part}
use Rattle.octets.proofs.Parts.{get_d_part}
use Rattle.octets.proofs.Walk.{lt_or_le}
use mathlib.Core.Logic.{⊎_elim}
use Rattle.octets.specs.Sets.{has, every, some, set_of, bit}

-- a test that holds of each holds of all
pub every_all : (P : ℕ → Bool) (a m : ℕ) → ((i : ℕ) → i < a + m → P i ≡ true) → every P a m ≡ true
unfolding every
every_all P a zero h = refl
every_all P a (suc m) h = rw (h a (omega arith)) (every_all P (a + 1) m (λ i l. h i (omega arith)))

-- a test that holds of no number of a run
pub some_none : (P : ℕ → Bool) (a m : ℕ) → ((i : ℕ) → i < a + m → P i ≡ false) → some P a m ≡ false
unfolding some
some_none P a zero h = refl
some_none P a (suc m) h = rw (h a (omega arith)) (some_none P (a + 1) m (λ i l. h i (omega arith)))

-- and of one
or_right : (a b : Bool) → b ≡ true → (a || b) ≡ true
or_right true b e = refl
or_right false b e = e

pub some_at : (P : ℕ → Bool) (a m i : ℕ) → a ≤ i → i < a + m → P i ≡ true → some P a m ≡ true
unfolding some
some_at P a zero i h l e = absurd (omega arith)
some_at P a (suc m) i h l e =
    ⊎_elim (λ g. or_right (P a) (some P (a + 1) m) (some_at P (a + 1) m i (omega arith) (omega arith) e))
    (λ g. let z : a ≡ i = omega arith in rw (z, e)) (lt_or_le a i)

pub some_not : (P : ℕ → Bool) (a m i : ℕ) → some P a m ≡ false → a ≤ i → i < a + m → P i ≡ false
some_not P a m i e h l = go (P i) (some_at P a m i h l)
  where
    go : (c : Bool) → (c ≡ true → some P a m ≡ true) → c ≡ false
    go true f = absurd (let t = f refl in let z : ◌≡◌ {A = ℕ} 0 1 = cc in omega arith)
    go false f = refl

-- the one found
abbrev pub Found : (ℕ → Bool) → ℕ → Type 0
Found P n = (i : ℕ) × (i < n) × (P i ≡ true)

found_first : (P : ℕ → Bool) (a m : ℕ) (c : Bool) → P a ≡ c → (c ≡ false → Found P (a + 1 + m)) → Found P (a + suc m)
found_first P a m true e f = (a, omega arith, e)
found_first P a m false e f = let (i, l, p) = f refl in (i, omega arith, p)

pub some_find : (P : ℕ → Bool) (a m : ℕ) → some P a m ≡ true → Found P (a + m)
unfolding some
some_find P a zero h = absurd (let z : ◌≡◌ {A = ℕ} 0 1 = cc in omega arith)
some_find P a (suc m) h = found_first P a m (P a) refl (λ e. some_find P (a + 1) m (rw e at h))

-- tests that agree on a run of numbers agree there as sets, of all and of one
module _ (P Q : ℕ → Bool) where
  pub set_of_ext : (a m : ℕ) → ((i : ℕ) → i < a + m → P i ≡ Q i) → set_of P a m ≡ set_of Q a m
  unfolding set_of
  set_of_ext a zero h = refl
  set_of_ext a (suc m) h = rw (h a (omega arith), set_of_ext (a + 1) m (λ i l. h i (omega arith)))

  pub every_ext : (a m : ℕ) → ((i : ℕ) → i < a + m → P i ≡ Q i) → every P a m ≡ every Q a m
  unfolding every
  every_ext a zero h = refl
  every_ext a (suc m) h = rw (h a (omega arith), every_ext (a + 1) m (λ i l. h i (omega arith)))

  pub some_ext : (a m : ℕ) → ((i : ℕ) → i < a + m → P i ≡ Q i) → some P a m ≡ some Q a m
  unfolding some
  some_ext a zero h = refl
  some_ext a (suc m) h = rw (h a (omega arith), some_ext (a + 1) m (λ i l. h i (omega arith)))

-- lists that agree on their bytes before e agree on the numbers and parts there
module _ (s t : List ℕ) (e : ℕ) (bytes : (i : ℕ) → i < e → get_or s i 0 ≡ get_or t i 0) where
  pub two_ext : (a : ℕ) → a + 2 ≤ e → two_at s a ≡ two_at t a
  two_ext a h = rw (bytes a (omega arith), bytes (a + 1) (omega arith))

  four_ext : (a : ℕ) → a + 4 ≤ e → four_at s a ≡ four_at t a
  unfolding four_at
  four_ext a h = rw (two_ext a (omega arith), two_ext (a + 2) (omega arith))

  pub eight_ext : (a : ℕ) → a + 8 ≤ e → eight_at s a ≡ eight_at t a
  unfolding eight_at
  eight_ext a h = rw (four_ext a (omega arith), four_ext (a + 4) (omega arith))

  pub part_ext : (a n : ℕ) → a + n ≤ e → e ≤ length s → e ≤ length t → part a n s ≡ part a n t
  part_ext a n h k l =
      let p : length (part a n s) ≡ n = length_part a n s (omega arith) in
      let q : length (part a n t) ≡ n = length_part a n t (omega arith) in
      ext_get_or 0 (part a n s) (part a n t) (p ∙ sym q)
      (λ i g. get_d_part a n i s (omega arith) ∙ bytes (a + i) (omega arith) ∙ sym (get_d_part a n i t (omega arith)))

-- a set's ones: the lowest, and those above
pub ones_bit : (b : Bool) (x : ℕ) → ones (bit b + 2 * x) ≡ bit b + ones x
ones_bit true x =
    let p : (1 + 2 * x) % 2 ≡ 1 = omega arith in
    let q : (1 + 2 * x) / 2 ≡ x = omega arith in
    ones_step (1 + 2 * x) ∙ rw (p, q)
ones_bit false x =
    let p : (0 + 2 * x) % 2 ≡ 0 = omega arith in
    let q : (0 + 2 * x) / 2 ≡ x = omega arith in
    ones_step (0 + 2 * x) ∙ rw (p, q)

bit_digit : (b : Bool) (set a : ℕ) → (b ≡ true → has set a ≡ true) → bit b ≤ set / 2 ^ a % 2
unfolding has
bit_digit true set a h = let e : set / 2 ^ a % 2 ≡ 1 = eqb-true (set / 2 ^ a % 2) 1 (h refl) in omega arith
bit_digit false set a h = omega arith

-- a part of a set has no more ones than the set
pub ones_within : (P : ℕ → Bool) (set a m : ℕ) → ((i : ℕ) → P i ≡ true → has set i ≡ true) → ones (set_of P a m) ≤ ones (set / 2 ^ a)
unfolding set_of ones
ones_within P set a zero h = omega arith
ones_within P set a (suc m) h =
    let e : set / 2 ^ a / 2 ^ 1 ≡ set / 2 ^ (a + 1) = shr-shr set a 1 in
    omega (
      arith,
      ones_bit (P a) (set_of P (a + 1) m),
      ones_within P set (a + 1) m h,
      ones_step (set / 2 ^ a),
      ap ones e,
      bit_digit (P a) set a (h a),
    )

bit_mono : (p q : Bool) → (p ≡ true → q ≡ true) → bit p ≤ bit q
bit_mono true q h = rw (h refl) (omega arith)
bit_mono false q h = omega arith

-- a wider test has no fewer ones
pub ones_mono : (P Q : ℕ → Bool) (a m : ℕ) → ((i : ℕ) → i < a + m → P i ≡ true → Q i ≡ true) → ones (set_of P a m) ≤ ones (set_of Q a m)
unfolding set_of
ones_mono P Q a zero h = omega arith
ones_mono P Q a (suc m) h =
    omega (
      arith,
      ones_bit (P a) (set_of P (a + 1) m),
      ones_bit (Q a) (set_of Q (a + 1) m),
      ones_mono P Q (a + 1) m (λ i l. h i (omega arith)),
      bit_mono (P a) (Q a) (h a (omega arith)),
    )

-- a set that is not empty has a board
pub ones_find : (P : ℕ → Bool) (a m : ℕ) → 1 ≤ ones (set_of P a m) → Found P (a + m)
unfolding set_of ones
ones_find P a zero h = absurd (omega arith)
ones_find P a (suc m) h =
    found_first P a m (P a) refl
    (λ e. ones_find P (a + 1) m (omega (arith, ones_bit (P a) (set_of P (a + 1) m), ap bit e)))

-- the digits above the lowest are those of the half
pub has_half : (s i : ℕ) → has s (suc i) ≡ has (s / 2) i
unfolding has
has_half s i = ap (λ x. eqb (x % 2) 1) (ap (λ k. s / 2 ^ k) (sym (one-add i)) ∙ sym (shr-shr s 1 i))

pub has_lowest : (s : ℕ) → has s 0 ≡ eqb (s % 2) 1
unfolding has
has_lowest s = ap (λ x. eqb (x % 2) 1) (div-one s)

digit : (b : Bool) (x : ℕ) → eqb ((bit b + 2 * x) % 2) 1 ≡ b
digit true x = eq-eqb ((1 + 2 * x) % 2) 1 (omega arith)
digit false x = ne_eqb ((0 + 2 * x) % 2) 1 (λ e. let z : (0 + 2 * x) % 2 ≡ 1 = e in omega arith)

digits_after : (b : Bool) (x : ℕ) → (bit b + 2 * x) / 2 ≡ x
digits_after true x = omega arith
digits_after false x = omega arith

-- a set made by a test has the boards of which the test holds
pub has_set_of : (P : ℕ → Bool) (a m i : ℕ) → i < m → has (set_of P a m) i ≡ P (a + i)
unfolding set_of
has_set_of P a zero i h = absurd (omega arith)
has_set_of P a (suc m) zero h =
    let e : a ≡ a + 0 = omega arith in
    has_lowest (bit (P a) + 2 * set_of P (a + 1) m) ∙ digit (P a) (set_of P (a + 1) m) ∙ ap P e
has_set_of P a (suc m) (suc i) h =
    let e : a + 1 + i ≡ a + suc i = omega arith in
    has_half (bit (P a) + 2 * set_of P (a + 1) m) i ∙ ap (λ x. has x i) (digits_after (P a) (set_of P (a + 1) m)) ∙ has_set_of P (a + 1) m i (omega arith) ∙ ap P e

-- nobody is in the empty set
pub has_none : (i : ℕ) → has 0 i ≡ false
unfolding has
has_none i = ap (λ x. eqb (x % 2) 1) (zero-div (2 ^ i))

two_digits : (x y : ℕ) → x < 2 → y < 2 → eqb (bit_or x y) 1 ≡ (eqb x 1 || eqb y 1)
two_digits zero zero h k = refl
two_digits zero (suc zero) h k = refl
two_digits (suc zero) zero h k = refl
two_digits (suc zero) (suc zero) h k = refl
two_digits zero (suc (suc y)) h k = absurd (omega arith)
two_digits (suc zero) (suc (suc y)) h k = absurd (omega arith)
two_digits (suc (suc x)) y h k = absurd (omega arith)

-- the or of two sets is their union
pub has_or : (a b i : ℕ) → has (bit_or a b) i ≡ (has a i || has b i)
has_or a b zero =
    has_lowest (bit_or a b) ∙ ap (λ x. eqb x 1) (or_mod a b 1) ∙ two_digits (a % 2) (b % 2) (mod-lt a (zero-lt-suc 1)) (mod-lt b (zero-lt-suc 1))
    ∙ ap (λ x. x || eqb (b % 2) 1) (sym (has_lowest a)) ∙ ap (λ x. has a 0 || x) (sym (has_lowest b))
has_or a b (suc i) =
    has_half (bit_or a b) i ∙ ap (λ x. has x i) (or_shr a b 1) ∙ has_or (a / 2) (b / 2) i
    ∙ ap (λ x. x || has (b / 2) i) (sym (has_half a i)) ∙ ap (λ x. has a (suc i) || x) (sym (has_half b i))

-- the set of one board
pub has_one : (k i : ℕ) → has (2 ^ k) i ≡ eqb i k
unfolding has
has_one zero zero = refl
has_one zero (suc i) = has_half 1 i ∙ has_none i ∙ sym (eqb-suc-zero i)
has_one (suc k) zero = has_lowest (2 ^ suc k) ∙ ap (λ x. eqb x 1) (ap (λ x. x % 2) (sym (one-mul (2 ^ suc k))) ∙ shifted_even 1 k) ∙ sym (eqb-zero-suc k)
has_one (suc k) (suc i) =
    has_half (2 ^ suc k) i ∙ ap (λ x. has x i) (ap (λ x. x / 2) (sym (one-mul (2 ^ suc k))) ∙ shifted_half 1 k ∙ one-mul (2 ^ k))
    ∙ has_one k i ∙ sym (eqb-suc-suc i k)

or_pick : (a b : Bool) → (a || b) ≡ pick b true a
unfolding pick
or_pick true true = refl
or_pick true false = refl
or_pick false true = refl
or_pick false false = refl

-- one board more
pub has_add : (set i k : ℕ) → has (bit_or set (2 ^ i)) k ≡ pick (eqb k i) true (has set k)
has_add set i k = has_or set (2 ^ i) k ∙ ap (λ (x : Bool). has set k || x) (has_one i k) ∙ or_pick (has set k) (eqb k i)

pub has_new : (set i : ℕ) → has (bit_or set (2 ^ i)) i ≡ true
unfolding pick
has_new set i = has_add set i i ∙ rw (eq-eqb i i refl)

pub has_old : (set i j : ℕ) → (j ≡ i → ⊥) → has (bit_or set (2 ^ i)) j ≡ has set j
unfolding pick
has_old set i j ne = has_add set i j ∙ rw (ne_eqb j i ne)

-- a set of boards up to n stays one with one of them more
pub or_below : (n set i : ℕ) → set < 2 ^ n → i < n → bit_or set (2 ^ i) < 2 ^ n
or_below n set i h k = or_lt n set (2 ^ i) h (pow-lt k)

-- a set without a board above n is below 2 ^ n
pub below_lt : (set n : ℕ) → eqb (set / 2 ^ n) 0 ≡ true → set < 2 ^ n
below_lt set n e =
    let z : set / 2 ^ n ≡ 0 = eqb-true (set / 2 ^ n) 0 e in
    let y : set / 2 ^ n < 1 = omega arith in
    rw one-mul at ((div-lt_iff_lt-mul (pow_pos n)).0 y)

pub lt_below : (set n : ℕ) → set < 2 ^ n → eqb (set / 2 ^ n) 0 ≡ true
lt_below set n h = eq-eqb (set / 2 ^ n) 0 (div-eq_of_lt h)

-- a set below 2 ^ n has no board above n
pub has_low : (n set k : ℕ) → set < 2 ^ n → has set k ≡ true → k < n
unfolding has
has_low n set k h t = ⊎_elim (λ l. l) (λ l. absurd (over l)) (lt_or_le k n)
  where
    over : n ≤ k → ⊥
    over l =
        let z : set / 2 ^ k ≡ 0 = div-eq_of_lt (lt_of_lt_of_le h (pow_mono l)) in
        let y : set / 2 ^ k % 2 ≡ 1 = eqb-true (set / 2 ^ k % 2) 1 t in
        omega arith
