-- Sums by the bits of the weights: from the highest bit down, the sum is doubled, and the fragments whose weights have the bit are added.
-- Assumes nothing.
use mathlib.Core.Path.{◌≡◌, refl, sym, ap, ap₂, ◌∙◌}
use mathlib.Core.Logic.{◌≢◌}
use mathlib.Core.List.{List}
use Prim.Native.Nat.{ℕ, zero, suc, ◌+◌, ◌-◌, ◌*◌, ◌/◌, ◌%◌, ◌^◌, ◌<◌, ◌≤◌}
use native.Mathlib.Nat as N
use native.Mathlib.Numerals.{add-one}
use native.Mathlib.Omega.{arith}
use lib.ListN.{length, get_or}
use Rattle.octets.specs.Bytes.{put}
use Rattle.octets.proofs.Below.{bit_cases}
use Rattle.octets.proofs.Laws.{get_d_put_in}
use Rattle.field.specs.Field.{add, double, times, mul}
use Rattle.field.proofs.Laws as L
use Rattle.field.proofs.Bits.{product_times}
use Rattle.code_sum.specs.Sums.{cell, total, weighed}
use Rattle.code_sum.specs.Blocks.{Summed, Low, picked}
use Rattle.code_sum.proofs.Totals.{total_same, total_zero}

-- ---- one product

-- a bit more of a changes nothing, where it has none
times_more : (n a x : ℕ) → a < 2 ^ n → times (suc n) a x ≡ times n a x
unfolding times double add
times_more zero a x h = ap (λ (a : ℕ). times 1 a x) none ∙ ap (λ (v : ℕ). add v (double 0)) (N.zero-mul x)
  where
    none : a ≡ 0
    none = omega arith
times_more (suc n) a x h = ap (λ (t : ℕ). add (a % 2 * x) (double t)) (times_more n (a / 2) x (omega arith))

-- a product by the lowest bit of a and the others
lowest : (a x : ℕ) → a < 256 → x < 256 → mul a x ≡ add (a % 2 * x) (double (mul (a / 2) x))
unfolding times
lowest a x h g =
    product_times a x h g
    ∙ ap (λ (t : ℕ). add (a % 2 * x) (double t)) (sym (times_more 7 (a / 2) x (omega arith)) ∙ sym (product_times (a / 2) x (omega arith) g))

-- ---- sums

none_halved : 0 ≡ add (double 0) 0
unfolding double add
none_halved = refl

-- terms in two parts, of which the second is doubled
total_halves : (f g h : ℕ → ℕ) (n : ℕ) → ((j : ℕ) → j < n → h j ≡ add (f j) (double (g j))) → total h n ≡ add (double (total g n)) (total f n)
unfolding total
total_halves f g h zero e = none_halved
total_halves f g h (suc n) e =
    ap₂ add (total_halves f g h n (λ j b. e j (omega arith))) (e n (omega arith) ∙ L.add_comm (f n) (double (g n)))
    ∙ L.add_swap (double (total g n)) (total f n) (double (g n)) (f n) ∙ ap (λ (d : ℕ). add d (add (total f n) (f n))) (sym (L.double_add (total g n) (g n)))

module _ (area : List ℕ) (s : ℕ) (xs ws : List ℕ) (b c : ℕ) where
  -- no fragment yet
  pub picked_none : picked area s xs ws b c 0 ≡ 0
  unfolding picked total
  picked_none = refl

  picked_next : (j : ℕ) → picked area s xs ws b c (j + 1) ≡ add (picked area s xs ws b c j) (get_or ws j 0 / 2 ^ b % 2 * cell area s c (get_or xs j 0))
  unfolding picked total
  picked_next j = ap (total (λ q. get_or ws q 0 / 2 ^ b % 2 * cell area s c (get_or xs q 0))) (add-one j)

  -- a fragment is added, or left out, by its weight's bit
  pub picked_take : (j old u v : ℕ) → get_or ws j 0 / 2 ^ b % 2 ≡ 1 → u ≡ add old (picked area s xs ws b c j) → v ≡ add u (cell area s c (get_or xs j 0))
      → v ≡ add old (picked area s xs ws b c (j + 1))
  picked_take j old u v bit e f =
      f ∙ ap (λ (t : ℕ). add t (cell area s c (get_or xs j 0))) e ∙ L.add_assoc old (picked area s xs ws b c j) (cell area s c (get_or xs j 0))
      ∙ ap (add old) (sym (picked_next j ∙ ap (add (picked area s xs ws b c j)) (ap (λ (t : ℕ). t * cell area s c (get_or xs j 0)) bit ∙ N.one-mul _)))

  pub picked_skip : (j old u : ℕ) → get_or ws j 0 / 2 ^ b % 2 ≢ 1 → u ≡ add old (picked area s xs ws b c j) → u ≡ add old (picked area s xs ws b c (j + 1))
  picked_skip j old u bit e =
      e ∙ ap (add old) (sym (picked_next j ∙ ap (add (picked area s xs ws b c j)) (none (get_or ws j 0 / 2 ^ b % 2) (N.mod-lt _ (N.zero-lt-suc 1)) bit) ∙ L.add_zero _))
    where
      none : (x : ℕ) → x < 2 → x ≢ 1 → x * cell area s c (get_or xs j 0) ≡ 0
      none x h o = bit_cases (λ (x : ℕ). x ≢ 1 → x * cell area s c (get_or xs j 0) ≡ 0) (λ o. N.zero-mul _) (λ o. absurd (o refl)) x h o

-- byte c of the first n of the fragments xs, each times the bits of its weight from b on, added up
unfoldable pub upper : List ℕ → ℕ → List ℕ → List ℕ → ℕ → ℕ → ℕ → ℕ
upper area s xs ws b c n = total (λ j. mul (get_or ws j 0 / 2 ^ b) (cell area s c (get_or xs j 0))) n

module _ (area : List ℕ) (s : ℕ) (xs ws : List ℕ) (c n : ℕ) where
  pub upper_none : (b : ℕ) → ((j : ℕ) → j < n → get_or ws j 0 < 2 ^ b) → upper area s xs ws b c n ≡ 0
  unfolding upper
  upper_none b h =
      total_zero (λ j. mul (get_or ws j 0 / 2 ^ b) (cell area s c (get_or xs j 0))) n
      (λ j g. ap (λ (w : ℕ). mul w (cell area s c (get_or xs j 0))) (N.div-eq_of_lt (h j g)) ∙ L.zero_mul_l (cell area s c (get_or xs j 0)))

  pub upper_all : upper area s xs ws 0 c n ≡ weighed area s xs ws c n
  unfolding upper weighed
  upper_all =
      total_same (λ j. mul (get_or ws j 0 / 2 ^ 0) (cell area s c (get_or xs j 0))) (λ j. mul (get_or ws j 0) (cell area s c (get_or xs j 0))) n
      (λ j g. ap (λ (w : ℕ). mul w (cell area s c (get_or xs j 0))) (N.div-one (get_or ws j 0)))

  -- one bit more
  pub upper_next : (b : ℕ) → ((i : ℕ) → get_or area i 0 < 256) → ((j : ℕ) → get_or ws j 0 < 256)
      → upper area s xs ws b c n ≡ add (double (upper area s xs ws (suc b) c n)) (picked area s xs ws b c n)
  unfolding upper picked cell
  upper_next b bytes small =
      total_halves (λ j. get_or ws j 0 / 2 ^ b % 2 * cell area s c (get_or xs j 0)) (λ j. mul (get_or ws j 0 / 2 ^ suc b) (cell area s c (get_or xs j 0)))
      (λ j. mul (get_or ws j 0 / 2 ^ b) (cell area s c (get_or xs j 0))) n
      (λ j g. lowest (get_or ws j 0 / 2 ^ b) (cell area s c (get_or xs j 0)) (N.lt_of_le_of_lt (N.div-le_self (get_or ws j 0) (2 ^ b)) (small j)) (bytes _)
      ∙ ap (λ (w : ℕ). add (get_or ws j 0 / 2 ^ b % 2 * cell area s c (get_or xs j 0)) (double (mul w (cell area s c (get_or xs j 0))))) (halved (get_or ws j 0)))
    where
      halved : (w : ℕ) → w / 2 ^ b / 2 ≡ w / 2 ^ suc b
      halved w = N.div-div-eq-div-mul w (2 ^ b) 2 ∙ ap (λ (d : ℕ). w / d) (sym (N.pow-suc 2 b))

-- ---- bytes

-- w sums that are copied to the front of a buffer
pub sums_fronted : (area : List ℕ) (s : ℕ) (xs ws : List ℕ) (c w : ℕ) (sum old new : List ℕ) → Summed area s xs ws c w sum → length sum ≡ w → w ≤ length old
    → new ≡ put 0 sum old → Summed area s xs ws c w new
sums_fronted area s xs ws c w sum old new h l g e i b =
    ap₂ (λ (t : List ℕ) (p : ℕ). get_or t p 0) e (sym (N.zero-add i)) ∙ get_d_put_in sum old 0 i (omega arith) (omega arith) ∙ h i b

-- what summing up by the bits of the weights asks for, where no weight is above top, which takes so many bits
pub bits_enough : (ws : List ℕ) (top bits : ℕ) → ((j : ℕ) → j < length ws → get_or ws j 0 ≤ top) → (bits ≤ 8) × (top < 2 ^ bits) → (bits ≤ 8) × Low bits ws
bits_enough ws top bits most w = (w.0, λ j h. N.lt_of_le_of_lt (most j h) w.1)

-- byte i from c on, counted from an earlier place on
pub moved : (area : List ℕ) (s : ℕ) (xs ws : List ℕ) (c at i : ℕ) → at ≤ c → weighed area s xs ws (at + (c - at + i)) (length xs) ≡ weighed area s xs ws (c + i) (length xs)
moved area s xs ws c at i h =
    let e : at + (c - at + i) ≡ c + i = omega arith in
    ap (λ (d : ℕ). weighed area s xs ws d (length xs)) e
