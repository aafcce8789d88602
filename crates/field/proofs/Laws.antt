-- The laws of the field: addition and multiplication of bytes. None goes through the pairs or triples of elements.
-- Assumes nothing.
use mathlib.Core.Path.{◌≡◌, refl, sym, ap, ap₂, ◌∙◌}
use mathlib.Core.Logic.{◌≢◌}
use Prim.Native.Nat.{ℕ, zero, suc, ◌+◌, ◌*◌, ◌/◌, ◌%◌, ◌^◌, ◌<◌}
use native.Mathlib.Nat.{mod-lt, mod-eq_of_lt, mod-mod, zero-mul, one-mul, mul-zero, zero-lt-suc, pos_of_ne-zero}
use native.Mathlib.Omega.{arith}
use lib.Arith.{bin_ind}
use lib.Bits.{bit_xor, differ, xor_step, xor_zero_r, xor_comm, xor_self, xor_lt, xor_mod, xor_shr, xor_block}
use lib.Dec.{eqb, eqb→eq, ltb, ltb→lt}
use Rattle.field.specs.Field.{add, double, times, mul}
use Rattle.octets.proofs.Below.{below, bit_cases}

two_pos : 0 < 2
two_pos = zero-lt-suc 1

byte_pos : 0 < 256
byte_pos = zero-lt-suc 255

-- ---- addition

differ_assoc : (x y z : ℕ) → x < 2 → y < 2 → z < 2 → differ (differ x y) z ≡ differ x (differ y z)
differ_assoc x y z hx hy hz =
    bit_cases (λ (x : ℕ). differ (differ x y) z ≡ differ x (differ y z)) refl
    (bit_cases (λ (y : ℕ). differ (differ 1 y) z ≡ differ 1 (differ y z)) refl
    (bit_cases (λ (z : ℕ). differ (differ 1 1) z ≡ differ 1 (differ 1 z)) refl refl z hz) y hy) x hx

xor_odd : (a b : ℕ) → bit_xor a b % 2 ≡ differ (a % 2) (b % 2)
xor_odd a b = xor_mod a b 1 ∙ xor_bits (a % 2) (b % 2) (mod-lt a two_pos) (mod-lt b two_pos)
  where
    xor_bits : (x y : ℕ) → x < 2 → y < 2 → bit_xor x y ≡ differ x y
    xor_bits x y hx hy =
        bit_cases (λ (x : ℕ). bit_xor x y ≡ differ x y) refl (bit_cases (λ (y : ℕ). bit_xor 1 y ≡ differ 1 y) refl refl y hy) x hx

xor_assoc : (a b c : ℕ) → bit_xor (bit_xor a b) c ≡ bit_xor a (bit_xor b c)
xor_assoc =
    bin_ind (λ (a : ℕ). (b c : ℕ) → bit_xor (bit_xor a b) c ≡ bit_xor a (bit_xor b c)) (λ b c. refl)
    (λ a ih b c. xor_step (bit_xor a b) c
    ∙ ap₂ (λ (p q : ℕ). bit_xor p (c / 2) * 2 + differ q (c % 2)) (xor_shr a b 1) (xor_odd a b)
    ∙ ap₂ (λ (p q : ℕ). p * 2 + q) (ih (b / 2) (c / 2))
    (differ_assoc (a % 2) (b % 2) (c % 2) (mod-lt a two_pos) (mod-lt b two_pos) (mod-lt c two_pos))
    ∙ sym (ap₂ (λ (p q : ℕ). bit_xor (a / 2) p * 2 + differ (a % 2) q) (xor_shr b c 1) (xor_odd b c))
    ∙ sym (xor_step a (bit_xor b c)))

pub add_assoc : (a b c : ℕ) → add (add a b) c ≡ add a (add b c)
unfolding add
add_assoc a b c = xor_assoc a b c

pub add_comm : (a b : ℕ) → add a b ≡ add b a
unfolding add
add_comm a b = xor_comm a b

pub zero_add : (a : ℕ) → add 0 a ≡ a
unfolding add
zero_add a = refl

pub add_zero : (a : ℕ) → add a 0 ≡ a
unfolding add
add_zero a = xor_zero_r a

pub add_self : (a : ℕ) → add a a ≡ 0
unfolding add
add_self a = xor_self a

pub add_left_comm : (a b c : ℕ) → add a (add b c) ≡ add b (add a c)
add_left_comm a b c = sym (add_assoc a b c) ∙ ap (λ (x : ℕ). add x c) (add_comm a b) ∙ add_assoc b a c

pub add_swap : (a b c d : ℕ) → add (add a b) (add c d) ≡ add (add a c) (add b d)
add_swap a b c d = simp (add_assoc, add_left_comm)

pub add_lt : (a b : ℕ) → a < 256 → b < 256 → add a b < 256
unfolding add
add_lt a b = xor_lt 8 a b

-- ---- doubling

add_twice : (a b : ℕ) → 2 * add a b ≡ add (2 * a) (2 * b)
unfolding add
add_twice a b =
    twice (bit_xor a b) ∙ sym (xor_block 1 a b 0 0 two_pos_1 two_pos_1) ∙ sym (ap₂ bit_xor (twice a) (twice b))
  where
    two_pos_1 : 0 < 2 ^ 1
    two_pos_1 = two_pos

    twice : (x : ℕ) → 2 * x ≡ x * 2 + 0
    twice x = omega arith

-- a bit is a factor 0 or 1
add_bit : (x y k : ℕ) → x < 2 → y < 2 → add x y * k ≡ add (x * k) (y * k)
add_bit x y k hx hy =
    bit_cases (λ (x : ℕ). add x y * k ≡ add (x * k) (y * k)) (simp (zero_add, zero-mul))
    (bit_cases (λ (y : ℕ). add 1 y * k ≡ add (1 * k) (y * k)) (simp (add_zero, zero-mul)) (simp (add_self, zero-mul)) y hy) x hx

bit_add : (x b c : ℕ) → x < 2 → x * add b c ≡ add (x * b) (x * c)
bit_add x b c = bit_cases (λ (x : ℕ). x * add b c ≡ add (x * b) (x * c)) (simp (zero-mul, zero_add)) (simp one-mul) x

bit_of : (a b : ℕ) → add a b / 128 % 2 ≡ add (a / 128 % 2) (b / 128 % 2)
unfolding add
bit_of a b = ap (λ (x : ℕ). x % 2) (xor_shr a b 7) ∙ xor_mod (a / 128) (b / 128) 1

pub double_add : (a b : ℕ) → double (add a b) ≡ add (double a) (double b)
unfolding double
double_add a b =
    ap₂ add (add_twice a b)
    (ap (λ (x : ℕ). x * 285) (bit_of a b) ∙ add_bit (a / 128 % 2) (b / 128 % 2) 285 (mod-lt (a / 128) two_pos) (mod-lt (b / 128) two_pos))
    ∙ add_swap (2 * a) (2 * b) (a / 128 % 2 * 285) (b / 128 % 2 * 285)

pub double_lt : (a : ℕ) → a < 256 → double a < 256
unfolding double add
double_lt a h = ltb→lt (double a) 256 (below (λ (a : ℕ). ltb (double a) 256) 256 tt a h)

-- a byte from its lowest bit and the others
pub halves : (a : ℕ) → a < 256 → add (a % 2) (double (a / 2)) ≡ a
unfolding double add
halves a h = eqb→eq (add (a % 2) (double (a / 2))) a (below (λ (a : ℕ). eqb (add (a % 2) (double (a / 2))) a) 256 tt a h)

-- ---- products: linear on both sides

times_zero : (n a : ℕ) → times n a 0 ≡ 0
unfolding times double add
times_zero zero a = refl
times_zero (suc n) a = simp (mul-zero, times_zero n (a / 2))

zero_times : (n b : ℕ) → times n 0 b ≡ 0
unfolding times double add
zero_times zero b = refl
zero_times (suc n) b = simp (zero-mul, zero_times n b)

times_one : (b : ℕ) → b < 256 → times 8 b 1 ≡ b
unfolding times double add
times_one b h = eqb→eq (times 8 b 1) b (below (λ (b : ℕ). eqb (times 8 b 1) b) 256 tt b h)

times_add : (n a b c : ℕ) → times n a (add b c) ≡ add (times n a b) (times n a c)
unfolding times
times_add zero a b c = sym (add_self 0)
times_add (suc n) a b c =
    ap₂ add (bit_add (a % 2) b c (mod-lt a two_pos)) (ap double (times_add n (a / 2) b c) ∙ double_add _ _)
    ∙ add_swap (a % 2 * b) (a % 2 * c) _ _

odd : (a b : ℕ) → add a b % 2 ≡ add (a % 2) (b % 2)
unfolding add
odd a b = xor_mod a b 1

half : (a b : ℕ) → add a b / 2 ≡ add (a / 2) (b / 2)
unfolding add
half a b = xor_shr a b 1

add_times : (n a b c : ℕ) → times n (add a b) c ≡ add (times n a c) (times n b c)
unfolding times
add_times zero a b c = sym (add_self 0)
add_times (suc n) a b c =
    ap₂ (λ (x y : ℕ). add (x * c) (double (times n y c))) (odd a b) (half a b)
    ∙ ap₂ add (add_bit (a % 2) (b % 2) c (mod-lt a two_pos) (mod-lt b two_pos)) (ap double (add_times n (a / 2) (b / 2) c) ∙ double_add _ _)
    ∙ add_swap (a % 2 * c) (b % 2 * c) _ _

double_zero : double 0 ≡ 0
unfolding double add
double_zero = refl

times_double : (n a b : ℕ) → times n a (double b) ≡ double (times n a b)
unfolding times
times_double zero a b = sym double_zero
times_double (suc n) a b =
    ap₂ add (bit (a % 2) (mod-lt a two_pos)) (ap double (times_double n (a / 2) b)) ∙ sym (double_add _ _)
  where
    bit : (x : ℕ) → x < 2 → x * double b ≡ double (x * b)
    bit = bit_cases (λ (x : ℕ). x * double b ≡ double (x * b)) (simp (zero-mul, double_zero)) (simp one-mul)

times_lt : (n a b : ℕ) → b < 256 → times n a b < 256
unfolding times
times_lt zero a b h = byte_pos
times_lt (suc n) a b h = add_lt (a % 2 * b) _ (bit (a % 2) (mod-lt a two_pos)) (double_lt _ (times_lt n (a / 2) b h))
  where
    bit : (x : ℕ) → x < 2 → x * b < 256
    bit = bit_cases (λ (x : ℕ). x * b < 256) (omega arith) (omega arith)

-- ---- products: the order of the factors

times_comm : (n a b : ℕ) → a < 2 ^ n → a < 256 → b < 256 → times n a b ≡ times 8 b a
unfolding times
times_comm zero a b h ha hb = sym (ap (times 8 b) zero_a ∙ times_zero 8 b)
  where
    zero_a : a ≡ 0
    zero_a = omega arith
times_comm (suc n) a b h ha hb =
    ap₂ add (bit (a % 2) (mod-lt a two_pos))
    (ap double (times_comm n (a / 2) b (omega arith) (omega arith) hb) ∙ sym (times_double 8 b (a / 2)))
    ∙ sym (times_add 8 b (a % 2) (double (a / 2))) ∙ ap (times 8 b) (halves a ha)
  where
    bit : (x : ℕ) → x < 2 → x * b ≡ times 8 b x
    bit = bit_cases (λ (x : ℕ). x * b ≡ times 8 b x) (zero-mul b ∙ sym (times_zero 8 b)) (one-mul b ∙ sym (times_one b hb))

byte : (a : ℕ) → a % 256 < 256
byte a = mod-lt a byte_pos

pub mul_lt : (a b : ℕ) → mul a b < 256
unfolding mul
mul_lt a b = times_lt 8 (a % 256) (b % 256) (byte b)

pub mul_comm : (a b : ℕ) → mul a b ≡ mul b a
unfolding mul
mul_comm a b = times_comm 8 (a % 256) (b % 256) (byte a) (byte a) (byte b)

low : (a b : ℕ) → add a b % 256 ≡ add (a % 256) (b % 256)
unfolding add
low a b = xor_mod a b 8

pub mul_add : (a b c : ℕ) → mul a (add b c) ≡ add (mul a b) (mul a c)
unfolding mul
mul_add a b c = ap (times 8 (a % 256)) (low b c) ∙ times_add 8 (a % 256) (b % 256) (c % 256)

pub add_mul : (a b c : ℕ) → mul (add a b) c ≡ add (mul a c) (mul b c)
add_mul a b c = mul_comm (add a b) c ∙ mul_add c a b ∙ ap₂ add (mul_comm c a) (mul_comm c b)

pub mul_double : (a b : ℕ) → b < 256 → mul a (double b) ≡ double (mul a b)
unfolding mul
mul_double a b h =
    ap (times 8 (a % 256)) (mod-eq_of_lt (double_lt b h) ∙ ap double (sym (mod-eq_of_lt h))) ∙ times_double 8 (a % 256) (b % 256)

pub double_mul : (a b : ℕ) → a < 256 → mul (double a) b ≡ double (mul a b)
double_mul a b h = mul_comm (double a) b ∙ mul_double b a h ∙ ap double (mul_comm b a)

pub zero_mul_r : (a : ℕ) → mul a 0 ≡ 0
unfolding mul
zero_mul_r a = times_zero 8 (a % 256)

pub zero_mul_l : (a : ℕ) → mul 0 a ≡ 0
zero_mul_l a = mul_comm 0 a ∙ zero_mul_r a

pub mul_one_r : (a : ℕ) → a < 256 → mul a 1 ≡ a
unfolding mul
mul_one_r a h = times_one (a % 256) (byte a) ∙ mod-eq_of_lt h

pub one_mul_l : (a : ℕ) → a < 256 → mul 1 a ≡ a
one_mul_l a h = mul_comm 1 a ∙ mul_one_r a h

-- by the bits of the first factor
times_assoc : (n a b c : ℕ) → b < 256 → times n a (mul b c) ≡ mul (times n a b) c
unfolding times
times_assoc zero a b c h = sym (zero_mul_l c)
times_assoc (suc n) a b c h =
    ap₂ add (bit (a % 2) (mod-lt a two_pos)) (ap double (times_assoc n (a / 2) b c h) ∙ sym (double_mul _ c (times_lt n (a / 2) b h)))
    ∙ sym (add_mul (a % 2 * b) _ c)
  where
    bit : (x : ℕ) → x < 2 → x * mul b c ≡ mul (x * b) c
    bit = bit_cases (λ (x : ℕ). x * mul b c ≡ mul (x * b) c) (simp (zero-mul, zero_mul_l)) (simp one-mul)

pub mul_assoc : (a b c : ℕ) → mul (mul a b) c ≡ mul a (mul b c)
unfolding mul
mul_assoc a b c =
    sym (times_assoc 8 (a % 256) (b % 256) c (byte b))
    ∙ ap (times 8 (a % 256)) (ap (λ (x : ℕ). times 8 x (c % 256)) (mod-mod b 256) ∙ sym (mod-eq_of_lt (mul_lt b c)))

pub mul_left_comm : (a b c : ℕ) → mul a (mul b c) ≡ mul b (mul a c)
mul_left_comm a b c = sym (mul_assoc a b c) ∙ ap (λ (x : ℕ). mul x c) (mul_comm a b) ∙ mul_assoc b a c

-- ---- differences and quotients

pub equal : (a b : ℕ) → add a b ≡ 0 → a ≡ b
equal a b e =
    sym (add_zero a) ∙ ap (add a) (sym (add_self b)) ∙ sym (add_assoc a b b) ∙ ap (λ (x : ℕ). add x b) e ∙ zero_add b

pub apart : (a b : ℕ) → a ≢ b → 0 < add a b
apart a b n = pos_of_ne-zero (λ e. n (equal a b e))

pub divided : (r d i : ℕ) → r < 256 → mul d i ≡ 1 → mul d (mul r i) ≡ r
divided r d i h e = mul_left_comm d r i ∙ ap (mul r) e ∙ mul_one_r r h
