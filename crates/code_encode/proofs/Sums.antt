-- A row's value as a sum from its lowest coefficient up, and a product as a sum over the bits of its first factor.
-- Assumes nothing.
use mathlib.Core.Path.{◌≡◌, sym, ap, ap₂, ◌∙◌, subst}
use mathlib.Core.Logic.{⊎_elim}
use mathlib.Core.List.{List, [], ◌∷◌, ◌++◌}
use Prim.Native.Nat.{ℕ, zero, suc, ◌+◌, ◌*◌, ◌/◌, ◌%◌, ◌^◌, ◌<◌, ◌≤◌}
use native.Mathlib.Numerals.{add-one}
use native.Mathlib.Omega.{arith}
use native.Mathlib.Nat as N
use lib.ListN.{length, get_or, take}
use lib.Seq.{take_all}
use Rattle.field.specs.Field.{add, double, mul}
use Rattle.field.proofs.Laws as L
use Rattle.octets.proofs.Below.{bit_cases}
use Rattle.octets.proofs.Walk.{lt_or_le}
use Rattle.code.specs.Code.{value, row, fragment_byte}
use Rattle.code.specs.Block.{header, rows, block}
use Rattle.code.proofs.Blocks.{length_row, get_d_row}

-- ---- one coefficient more on top

-- x to the m
unfoldable pub power_of : ℕ → ℕ → ℕ
power_of x zero = 1
power_of x (suc m) = mul x (power_of x m)

pub power_one : (x : ℕ) → x < 256 → power_of x 1 ≡ x
unfolding power_of
power_one x h = L.mul_one_r x h

pub power_next : (x m p : ℕ) → p ≡ power_of x m → mul x p ≡ power_of x (m + 1)
unfolding power_of
power_next x m p e = ap (mul x) e ∙ sym (ap (power_of x) (add-one m))

value_first : (r : List ℕ) (x : ℕ) → 0 < length r → value (take 1 r) x ≡ get_or r 0 0
unfolding value
value_first [] x h = absurd (omega arith)
value_first (c ∷ cs) x h = ap (add c) (L.zero_mul_r x) ∙ L.add_zero c

value_more : (r : List ℕ) (x m : ℕ) → m < length r → get_or r m 0 < 256
    → value (take (suc m) r) x ≡ add (value (take m r) x) (mul (power_of x m) (get_or r m 0))
unfolding value power_of
value_more [] x m h g = absurd (omega arith)
value_more (c ∷ cs) x zero h g =
    ap (add c) (L.zero_mul_r x) ∙ L.add_zero c ∙ sym (L.one_mul_l c g) ∙ sym (L.zero_add (mul 1 c))
value_more (c ∷ cs) x (suc m) h g =
    ap (λ (v : ℕ). add c (mul x v)) (value_more cs x m (omega arith) g)
    ∙ ap (add c) (L.mul_add x (value (take m cs) x) (mul (power_of x m) (get_or cs m 0)))
    ∙ sym (L.add_assoc c (mul x (value (take m cs) x)) (mul x (mul (power_of x m) (get_or cs m 0))))
    ∙ ap (add (add c (mul x (value (take m cs) x)))) (sym (L.mul_assoc x (power_of x m) (get_or cs m 0)))

module _ (k : ℕ) (pos : 0 < k) (msg : List ℕ) (c : ℕ) (inside : c < rows k (length msg)) (x : ℕ) where
  pub sum_first : (b : ℕ) → b ≡ get_or (header (length msg) ++ msg) (c * k + 0) 0 → b ≡ value (take 1 (row k (block k msg) c)) x
  sum_first b e =
      e ∙ sym (get_d_row k pos msg c inside 0 pos) ∙ sym (value_first (row k (block k msg) c) x (omega (arith, length_row k pos msg c inside)))

  pub sum_more : (m p b : ℕ) → m < k → b < 256 → p ≡ power_of x m → b ≡ get_or (header (length msg) ++ msg) (c * k + m) 0
      → add (value (take m (row k (block k msg) c)) x) (mul p b) ≡ value (take (m + 1) (row k (block k msg) c)) x
  sum_more m p b h g ep eb =
      let e : b ≡ get_or (row k (block k msg) c) m 0 = eb ∙ sym (get_d_row k pos msg c inside m h) in
      ap₂ (λ (y z : ℕ). add (value (take m (row k (block k msg) c)) x) (mul y z)) ep e
      ∙ sym (value_more (row k (block k msg) c) x m (omega (arith, length_row k pos msg c inside)) (subst (λ (z : ℕ). z < 256) e g))
      ∙ sym (ap (λ (j : ℕ). value (take j (row k (block k msg) c)) x) (add-one m))

  pub sum_all : value (take k (row k (block k msg) c)) x ≡ fragment_byte k (block k msg) x c
  unfolding fragment_byte
  sum_all = ap (λ (l : List ℕ). value l x) (take_all k (row k (block k msg) c) (N.le_of_eq (length_row k pos msg c inside)))

-- ---- bit by bit

pub bit_zero : (bit o y : ℕ) → bit ≡ 0 → o ≡ add o (bit * y)
bit_zero bit o y e = sym (ap (λ (x : ℕ). add o (x * y)) e ∙ ap (add o) (N.zero-mul y) ∙ L.add_zero o)

pub bit_one : (bit o y : ℕ) → bit ≡ 1 → add o y ≡ add o (bit * y)
bit_one bit o y e = sym (ap (λ (x : ℕ). add o (x * y)) e ∙ ap (add o) (N.one-mul y))

-- the lowest bit's part of a product, and what the others give with the second factor doubled
mul_bit : (u y : ℕ) → u < 256 → y < 256 → mul u y ≡ add (u % 2 * y) (mul (u / 2) (double y))
mul_bit u y h g =
    ap (λ (v : ℕ). mul v y) (sym (L.halves u h)) ∙ L.add_mul (u % 2) (double (u / 2)) y
    ∙ ap₂ add (bit (u % 2) (omega arith)) (L.double_mul (u / 2) y (omega arith) ∙ sym (L.mul_double (u / 2) y g))
  where
    bit : (x : ℕ) → x < 2 → mul x y ≡ x * y
    bit = bit_cases (λ (x : ℕ). mul x y ≡ x * y) (L.zero_mul_l y ∙ sym (N.zero-mul y)) (L.one_mul_l y g ∙ sym (N.one-mul y))

-- added twice is not added
undone : (x a b : ℕ) → add (add x (add a b)) a ≡ add x b
undone x a b =
    L.add_assoc x (add a b) a ∙ ap (add x) (L.add_comm (add a b) a ∙ sym (L.add_assoc a a b) ∙ ap (λ (z : ℕ). add z b) (L.add_self a) ∙ L.zero_add b)

-- What is still to be added of w times the column, for a byte that is to become t, before bit b: w / 2^b times the column doubled so often.

pub rest_start : (o w y : ℕ) → o ≡ add (add o (mul w y)) (mul (w / 2 ^ 0) y)
rest_start o w y =
    sym (ap (λ (v : ℕ). add (add o (mul w y)) (mul v y)) (N.div-one w)
    ∙ L.add_assoc o (mul w y) (mul w y) ∙ ap (add o) (L.add_self (mul w y)) ∙ L.add_zero o)

-- bit b is added
pub rest_bit : (t u y : ℕ) → u < 256 → y < 256 → add (add t (mul u y)) (u % 2 * y) ≡ add t (mul (u / 2) (double y))
rest_bit t u y h g = ap (λ (v : ℕ). add (add t v) (u % 2 * y)) (mul_bit u y h g) ∙ undone t (u % 2 * y) (mul (u / 2) (double y))

-- and the column doubled
pub rest_next : (t w b y : ℕ) → add t (mul (w / 2 ^ b / 2) y) ≡ add t (mul (w / 2 ^ (b + 1)) y)
rest_next t w b y = ap (λ (v : ℕ). add t (mul v y))
    (N.div-div-eq-div-mul w (2 ^ b) 2 ∙ ap (λ (d : ℕ). w / d) (sym (N.pow-suc 2 b)) ∙ ap (λ (e : ℕ). w / 2 ^ e) (sym (add-one b)))

-- there is no further bit
pub rest_none : (t u y : ℕ) → u < 2 → add t (mul (u / 2) y) ≡ t
rest_none t u y h = let z : u / 2 ≡ 0 = omega arith in ap (λ (v : ℕ). add t (mul v y)) z ∙ ap (add t) (L.zero_mul_l y) ∙ L.add_zero t

-- a power at most the largest has no more bits than it
pub no_more : (w most b : ℕ) → w ≤ most → most / 2 ^ b < 2 → w / 2 ^ b < 2
no_more w most b h g =
    (N.div-lt_iff_lt-mul {k = 2 ^ b} {x = w} {y = 2} (pos b)).1
    (N.lt_of_le_of_lt h ((N.div-lt_iff_lt-mul {k = 2 ^ b} {x = most} {y = 2} (pos b)).0 g))
  where
    pos : (b : ℕ) → 0 < 2 ^ b
    pos zero = omega arith
    pos (suc b) = omega (arith, pos b, N.pow-suc 2 b)

pub shifted_lt : (w b : ℕ) → w < 256 → w / 2 ^ b < 256
shifted_lt w b h = N.lt_of_le_of_lt (N.div-le_self w (2 ^ b)) h

-- a byte has no bit above bit 7
pub below_seven : (most b : ℕ) → most < 256 → b < 8 → 2 ≤ most / 2 ^ b → b < 7
below_seven most b h g l =
    ⊎_elim (λ a. a)
    (λ a. let e : b ≡ 7 = omega arith in
    let z : 2 ≤ most / 2 ^ 7 = subst (λ (c : ℕ). 2 ≤ most / 2 ^ c) e l in
    absurd (omega arith)) (lt_or_le b 7)
