-- FIPS 180-4, sections 2.2.2, 3.2 and 4.1.2: the operations and functions on 32-bit words. A word is a number below 2 ^ 32.
use Rattle.std.specs.Prelude.{ℕ, ◌+◌, ◌-◌, ◌*◌, ◌/◌, ◌%◌, ◌^◌, bit_and, bit_or, bit_xor}

infixl 65 ◌⊞◌
-- document 01: "sums are taken modulo 2^32"
unfoldable pub ◌⊞◌ : ℕ → ℕ → ℕ
x ⊞ y = (x + y) % 2 ^ 32

-- 2.2.2: the complement
unfoldable pub not32 : ℕ → ℕ
not32 x = 2 ^ 32 - 1 - x

-- 3.2: a shift to the right, and a rotation to the right
unfoldable pub shr : ℕ → ℕ → ℕ
shr n x = x / 2 ^ n

-- 2.2.2, the rotation to the right
unfoldable pub rotr : ℕ → ℕ → ℕ
rotr n x = bit_or (x / 2 ^ n) (x * 2 ^ (32 - n) % 2 ^ 32)

-- 4.1.2, (4.2)
unfoldable pub ch : ℕ → ℕ → ℕ → ℕ
ch x y z = bit_xor (bit_and x y) (bit_and (not32 x) z)

-- 4.1.2, (4.3)
unfoldable pub maj : ℕ → ℕ → ℕ → ℕ
maj x y z = bit_xor (bit_xor (bit_and x y) (bit_and x z)) (bit_and y z)

-- 4.1.2, (4.4)
unfoldable pub Σ₀ : ℕ → ℕ
Σ₀ x = bit_xor (bit_xor (rotr 2 x) (rotr 13 x)) (rotr 22 x)

-- 4.1.2, (4.5)
unfoldable pub Σ₁ : ℕ → ℕ
Σ₁ x = bit_xor (bit_xor (rotr 6 x) (rotr 11 x)) (rotr 25 x)

-- 4.1.2, (4.6)
unfoldable pub σ₀ : ℕ → ℕ
σ₀ x = bit_xor (bit_xor (rotr 7 x) (rotr 18 x)) (shr 3 x)

-- 4.1.2, (4.7)
unfoldable pub σ₁ : ℕ → ℕ
σ₁ x = bit_xor (bit_xor (rotr 17 x) (rotr 19 x)) (shr 10 x)
