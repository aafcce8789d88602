-- The tables of powers and logarithms: their rules, each one test over all entries, and what follows for products and inverses.
-- Assumes nothing.
use mathlib.Core.Path.{◌≡◌, sym, ap, ◌∙◌}
use mathlib.Core.Bool.{Bool, true}
use mathlib.Core.List.{[], List, ◌∷◌}
use Prim.Native.Nat.{ℕ, zero, suc, ◌+◌, ◌-◌, ◌<◌, ◌≤◌}
use native.Mathlib.Nat.{not-suc-le-zero, le_of_suc-le-suc, suc-add}
use native.Mathlib.Nat as N
use native.Mathlib.Omega.{arith}
use lib.Dec.{T, eqb, eqb→eq, ltb, ltb→lt}
use lib.ListN.{length, get_or}
use Rattle.field.specs.Tables.{powers, logs, inverse}
use Rattle.field.specs.Field.{add, double, mul, power}
use Rattle.octets.proofs.Below.{below, both, both_left, both_right}
use Rattle.field.proofs.Laws.{double_lt, double_mul, mul_comm, mul_assoc, one_mul_l, zero_mul_r}

-- ---- the table of powers: it starts at 1, and each entry is twice the one before

chain : ℕ → List ℕ → Bool
chain x [] = true
chain x (y ∷ ys) = both (eqb y x) (chain (double x) ys)

chain_at : (i : ℕ) (ys : List ℕ) → T (chain (power i) ys) → (k : ℕ) → k < length ys → get_or ys k 0 ≡ power (k + i)
unfolding chain power
chain_at i [] t k h = absurd (not-suc-le-zero h)
chain_at i (y ∷ ys) t zero h = eqb→eq y (power i) (both_left (eqb y (power i)) (chain (double (power i)) ys) t) ∙ ap power (sym (N.zero-add i))
chain_at i (y ∷ ys) t (suc k) h =
    chain_at (suc i) ys (both_right (eqb y (power i)) (chain (double (power i)) ys) t) k (le_of_suc-le-suc h) ∙ ap power (N.add-suc k i ∙ sym (suc-add k i))

pub powers_at : (k : ℕ) → k < 255 → get_or powers k 0 ≡ power k
unfolding powers chain power double add
powers_at k h = chain_at 0 powers tt k h ∙ ap power (N.add-zero k)

-- ---- the table of logarithms is its inverse

pub logs_lt : (a : ℕ) → a < 256 → get_or logs a 0 < 255
unfolding logs
logs_lt a h = ltb→lt (get_or logs a 0) 255 (below (λ (a : ℕ). ltb (get_or logs a 0) 255) 256 tt a h)

pub powers_logs : (a : ℕ) → 0 < a → a < 256 → get_or powers (get_or logs a 0) 0 ≡ a
unfolding powers logs
powers_logs zero h g = absurd (not-suc-le-zero h)
powers_logs (suc a) h g =
    eqb→eq (get_or powers (get_or logs (suc a) 0) 0) (suc a)
    (below (λ (a : ℕ). eqb (get_or powers (get_or logs (suc a) 0) 0) (suc a)) 255 tt a (le_of_suc-le-suc g))

pub logs_powers : (k : ℕ) → k < 255 → get_or logs (get_or powers k 0) 0 ≡ k
unfolding powers logs
logs_powers k h = eqb→eq _ _ (below (λ (k : ℕ). eqb (get_or logs (get_or powers k 0) 0) k) 255 tt k h)

-- ---- products by sums of logarithms

pub power_lt : (e : ℕ) → power e < 256
unfolding power
power_lt zero = omega arith
power_lt (suc e) = double_lt (power e) (power_lt e)

pub power_add : (i j : ℕ) → power (i + j) ≡ mul (power i) (power j)
unfolding power
power_add zero j = ap power (N.zero-add j) ∙ sym (one_mul_l (power j) (power_lt j))
power_add (suc i) j = ap power (suc-add i j) ∙ ap double (power_add i j) ∙ sym (double_mul (power i) (power j) (power_lt i))

power_255 : power 255 ≡ 1
unfolding power powers double add
power_255 = ap double (sym (powers_at 254 (omega arith)))

pub power_less : (e : ℕ) → 255 ≤ e → power (e - 255) ≡ power e
power_less e h =
    sym (one_mul_l (power (e - 255)) (power_lt (e - 255))) ∙ ap (λ (x : ℕ). mul x (power (e - 255))) (sym power_255)
    ∙ sym (power_add 255 (e - 255)) ∙ ap power (omega arith)

pub power_log : (a : ℕ) → 0 < a → a < 256 → power (get_or logs a 0) ≡ a
power_log a h g = sym (powers_at (get_or logs a 0) (logs_lt a g)) ∙ powers_logs a h g

pub log_power : (k : ℕ) → k < 255 → get_or logs (power k) 0 ≡ k
log_power k h = ap (λ (a : ℕ). get_or logs a 0) (sym (powers_at k h)) ∙ logs_powers k h

pub power_turn : (e : ℕ) → e < 255 → mul (power e) (power (255 - e)) ≡ 1
power_turn e h = sym (power_add e (255 - e)) ∙ ap power (turn e h) ∙ power_255
  where
    turn : (e : ℕ) → e < 255 → e + (255 - e) ≡ 255
    turn e h = omega arith

-- ---- inverses

pub mul_inverse : (a : ℕ) → 0 < a → a < 256 → mul a (inverse a) ≡ 1
unfolding inverse
mul_inverse a h g =
    ap (λ (x : ℕ). mul x (power (255 - get_or logs a 0))) (sym (power_log a h g)) ∙ power_turn (get_or logs a 0) (logs_lt a g)

-- no zero divisors
pub cancel : (a b : ℕ) → 0 < a → a < 256 → b < 256 → mul a b ≡ 0 → b ≡ 0
cancel a b h g hb e =
    sym (one_mul_l b hb) ∙ ap (λ (x : ℕ). mul x b) (sym (mul_inverse a h g) ∙ mul_comm a (inverse a))
    ∙ mul_assoc (inverse a) a b ∙ ap (mul (inverse a)) e ∙ zero_mul_r (inverse a)
