-- The steps of a product without tables.
-- Assumes nothing.
use mathlib.Core.Path.{◌≡◌, sym, ap, ap₂, ◌∙◌}
use Prim.Native.Nat.{ℕ, ◌+◌, ◌-◌, ◌*◌, ◌/◌, ◌%◌, ◌<◌}
use native.Mathlib.Nat as N
use native.Mathlib.Omega.{arith}
use lib.Dec.{eqb, eqb→eq}
use Rattle.field.specs.Field.{add, double, times, mul}
use Rattle.octets.proofs.Below.{below}

-- twice a byte, by shifting within the byte
pub shifted : (t : ℕ) → t < 256 → add (t % 128 * 2) (t / 128 * 29) ≡ double t
unfolding add double
shifted t h = eqb→eq _ _ (below (λ (t : ℕ). eqb (add (t % 128 * 2) (t / 128 * 29)) (double t)) 256 tt t h)

pub product_times : (w x : ℕ) → w < 256 → x < 256 → mul w x ≡ times 8 w x
unfolding mul
product_times w x hw hx = ap₂ (times 8) (N.mod-eq_of_lt hw) (N.mod-eq_of_lt hx)

-- ---- the inverse

-- a^254
abbrev pub power_254 : ℕ → ℕ
power_254 a =
    let a3 = mul (mul a a) a in
    let a7 = mul (mul a3 a3) a in
    let a15 = mul (mul a7 a7) a in
    let a31 = mul (mul a15 a15) a in
    let a63 = mul (mul a31 a31) a in
    let a127 = mul (mul a63 a63) a in
    mul a127 a127

pub is_inverse : (a : ℕ) → 0 < a → a < 256 → mul a (power_254 a) ≡ 1
unfolding mul times double add
is_inverse a h g = go (a - 1) (omega arith) (omega arith)
  where
    go : (b : ℕ) → b < 255 → b + 1 ≡ a → mul a (power_254 a) ≡ 1
    go b l e = ap (λ (a : ℕ). mul a (power_254 a)) (sym e) ∙ eqb→eq _ _ (below (λ (b : ℕ). eqb (mul (b + 1) (power_254 (b + 1))) 1) 255 tt b l)
