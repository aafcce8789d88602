-- The choice and the majority with fewer operations, digit by digit.
-- Assumes nothing.
use Rattle.std.proofs.Common.{◌≡◌, ℕ, zero, suc, ◌+◌, ◌-◌, ◌*◌, ◌/◌, ◌%◌, ◌^◌, ◌<◌, min, sym, refl, ◌∙◌, subst, ap₂, mod-lt, zero-lt-suc, pow-suc, div-add-mod', arith}
use lib.Bits.{bit_and, bit_xor, differ, and_mod, xor_mod, and_shr, xor_shr}
use Rattle.octets.proofs.Below.{bit_cases}

two_pos : 0 < 2
two_pos = zero-lt-suc 1

-- ---- the halves and the last digits of the two operations

and_half : (a b : ℕ) → bit_and a b / 2 ≡ bit_and (a / 2) (b / 2)
and_half a b = and_shr a b 1

xor_half : (a b : ℕ) → bit_xor a b / 2 ≡ bit_xor (a / 2) (b / 2)
xor_half a b = xor_shr a b 1

and_odd : (a b : ℕ) → bit_and a b % 2 ≡ min (a % 2) (b % 2)
and_odd a b = and_mod a b 1 ∙ digits (a % 2) (b % 2) (mod-lt a two_pos) (mod-lt b two_pos)
  where
    digits : (x y : ℕ) → x < 2 → y < 2 → bit_and x y ≡ min x y
    digits x y hx hy = bit_cases (λ (x : ℕ). bit_and x y ≡ min x y) (bit_cases (λ (y : ℕ). bit_and 0 y ≡ min 0 y) refl refl y hy) (bit_cases (λ (y : ℕ). bit_and 1 y ≡ min 1 y) refl refl y hy) x hx

xor_odd : (a b : ℕ) → bit_xor a b % 2 ≡ differ (a % 2) (b % 2)
xor_odd a b = xor_mod a b 1 ∙ digits (a % 2) (b % 2) (mod-lt a two_pos) (mod-lt b two_pos)
  where
    digits : (x y : ℕ) → x < 2 → y < 2 → bit_xor x y ≡ differ x y
    digits x y hx hy = bit_cases (λ (x : ℕ). bit_xor x y ≡ differ x y) refl (bit_cases (λ (y : ℕ). bit_xor 1 y ≡ differ 1 y) refl refl y hy) x hx

-- numbers with one half and one last digit
same_digits : (a b : ℕ) → a / 2 ≡ b / 2 → a % 2 ≡ b % 2 → a ≡ b
same_digits a b h o = sym (div-add-mod' a 2) ∙ ap₂ (λ (x y : ℕ). x * 2 + y) h o ∙ div-add-mod' b 2

none : (x : ℕ) → x < 1 → x ≡ 0
none x h = omega arith

-- three digits
digit_cases : (P : ℕ → ℕ → ℕ → Type 0) → P 0 0 0 → P 0 0 1 → P 0 1 0 → P 0 1 1 → P 1 0 0 → P 1 0 1 → P 1 1 0 → P 1 1 1 → (x y z : ℕ) → x < 2 → y < 2 → z < 2 → P x y z
digit_cases P a b c d e f g h x y z hx hy hz =
    bit_cases (λ (x : ℕ). P x y z)
    (bit_cases (λ (y : ℕ). P 0 y z) (bit_cases (P 0 0) a b z hz) (bit_cases (P 0 1) c d z hz) y hy)
    (bit_cases (λ (y : ℕ). P 1 y z) (bit_cases (P 1 0) e f z hz) (bit_cases (P 1 1) g h z hz) y hy)
    x hx

-- ---- one mask instead of two

abbrev masked : ℕ → ℕ → ℕ → ℕ
masked x y z = bit_xor z (bit_and x (bit_xor y z))

-- n is all digits that x has not
abbrev chosen : ℕ → ℕ → ℕ → ℕ → ℕ
chosen n x y z = bit_xor (bit_and x y) (bit_and n z)

chosen_digit : (x y z : ℕ) → x < 2 → y < 2 → z < 2 → differ z (min x (differ y z)) ≡ differ (min x y) (min (1 - x) z)
chosen_digit = digit_cases (λ x y z. differ z (min x (differ y z)) ≡ differ (min x y) (min (1 - x) z)) refl refl refl refl refl refl refl refl

pub choice_mask : (k x y z : ℕ) → x < 2 ^ k → y < 2 ^ k → z < 2 ^ k → masked x y z ≡ chosen (2 ^ k - 1 - x) x y z
choice_mask zero x y z hx hy hz =
    subst (λ (x : ℕ). masked x y z ≡ chosen (0 - x) x y z) (sym (none x hx)) (subst (λ (z : ℕ). masked 0 y z ≡ chosen 0 0 y z) (sym (none z hz)) refl)
choice_mask (suc k) x y z hx hy hz =
    let p = pow-suc 2 k in
    let n = 2 ^ suc k - 1 - x in
    let half : n / 2 ≡ 2 ^ k - 1 - x / 2 = omega arith in
    let odd : n % 2 ≡ 1 - x % 2 = omega arith in
    same_digits (masked x y z) (chosen n x y z)
    (rw (xor_half z (bit_and x (bit_xor y z)), and_half x (bit_xor y z), xor_half y z, xor_half (bit_and x y) (bit_and n z), and_half x y, and_half n z, half)
    (choice_mask k (x / 2) (y / 2) (z / 2) (omega arith) (omega arith) (omega arith)))
    (rw (xor_odd z (bit_and x (bit_xor y z)), and_odd x (bit_xor y z), xor_odd y z, xor_odd (bit_and x y) (bit_and n z), and_odd x y, and_odd n z, odd)
    (chosen_digit (x % 2) (y % 2) (z % 2) (mod-lt x two_pos) (mod-lt y two_pos) (mod-lt z two_pos)))

-- ---- y, unless both others differ from it

abbrev middling : ℕ → ℕ → ℕ → ℕ
middling x y z = bit_xor y (bit_and (bit_xor x y) (bit_xor y z))

abbrev most : ℕ → ℕ → ℕ → ℕ
most x y z = bit_xor (bit_xor (bit_and x y) (bit_and x z)) (bit_and y z)

most_digit : (x y z : ℕ) → x < 2 → y < 2 → z < 2 → differ y (min (differ x y) (differ y z)) ≡ differ (differ (min x y) (min x z)) (min y z)
most_digit = digit_cases (λ x y z. differ y (min (differ x y) (differ y z)) ≡ differ (differ (min x y) (min x z)) (min y z)) refl refl refl refl refl refl refl refl

pub majority_mask : (k x y z : ℕ) → x < 2 ^ k → y < 2 ^ k → z < 2 ^ k → middling x y z ≡ most x y z
majority_mask zero x y z hx hy hz =
    subst (λ (x : ℕ). middling x y z ≡ most x y z) (sym (none x hx)) (subst (λ (y : ℕ). middling 0 y z ≡ most 0 y z) (sym (none y hy)) refl)
majority_mask (suc k) x y z hx hy hz =
    let p = pow-suc 2 k in
    same_digits (middling x y z) (most x y z)
    (rw (
      xor_half y (bit_and (bit_xor x y) (bit_xor y z)),
      and_half (bit_xor x y) (bit_xor y z),
      xor_half x y,
      xor_half y z,
      xor_half (bit_xor (bit_and x y) (bit_and x z)) (bit_and y z),
      xor_half (bit_and x y) (bit_and x z),
      and_half x y,
      and_half x z,
      and_half y z,
    )
    (majority_mask k (x / 2) (y / 2) (z / 2) (omega arith) (omega arith) (omega arith)))
    (rw (
      xor_odd y (bit_and (bit_xor x y) (bit_xor y z)),
      and_odd (bit_xor x y) (bit_xor y z),
      xor_odd x y,
      xor_odd y z,
      xor_odd (bit_xor (bit_and x y) (bit_and x z)) (bit_and y z),
      xor_odd (bit_and x y) (bit_and x z),
      and_odd x y,
      and_odd x z,
      and_odd y z,
    )
    (most_digit (x % 2) (y % 2) (z % 2) (mod-lt x two_pos) (mod-lt y two_pos) (mod-lt z two_pos)))
