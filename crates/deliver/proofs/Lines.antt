-- The rows of the block: a coefficient is the sum of the kept bytes times their scales, each by its weight.
-- Assumes nothing.
use mathlib.Core.Path.{◌≡◌, refl, sym, ap, ◌∙◌, subst}
use mathlib.Core.Logic.{⊎_elim}
use mathlib.Core.List.{List}
use Prim.Native.Nat.{ℕ, suc, ◌+◌, ◌-◌, ◌*◌, ◌/◌, ◌%◌, ◌<◌, ◌≤◌, min}
use native.Mathlib.Nat as N
use native.Mathlib.Omega.{arith}
use borrow.Author.Tests.{lt-ltb, le-ltb}
use lib.Seq.{get_or-set_same, get_or-set_other}
use borrow.Rule.Slice.PartMut.{put_mid}
use Rattle.std.proofs.Common.{rules}
use Rattle.std.proofs.lemmas.List.{places}
use lib.ListN.{length, get_or, set, drop, replicate}
use Rattle.octets.specs.Bytes.{tab}
use Rattle.octets.proofs.Picks.{pick_on, pick_off}
use Rattle.octets.proofs.Tables.{get_d_tab}
use Rattle.octets.proofs.Walk.{lt_or_le}
use Rattle.field.specs.Field.{mul}
use Rattle.field.proofs.Laws as L
use Rattle.code.specs.Code.{value}
use Rattle.code_sum.specs.Sums.{cell}
use Rattle.code_sum.specs.Sums.{total, weighed}
use Rattle.code_through.specs.Sums.{Weights}
use Rattle.code_sum.proofs.Totals.{total_same}
use Rattle.deliver_afresh.specs.Working.{Made}
use Rattle.deliver.specs.Working.{fresh_byte}

pub row_byte : (area : List ℕ) (s : ℕ) (xs m ds : List ℕ) (len : ℕ) (b es ts : List ℕ) (c q n : ℕ) → Made area s xs m ds len b
    → ((j : ℕ) → j < length xs → get_or es j 0 ≡ mul (get_or ds j 0) (cell area s c (get_or xs j 0))) → Weights xs m es (suc q) ts → c < len → q < length xs
    → n ≡ length xs → total (λ j. get_or ts j 0) n ≡ get_or b (c * length xs + q) 0
unfolding weighed
row_byte area s xs m ds len b es ts c q n M E W hc hq e =
    ap (total (λ j. get_or ts j 0)) e
    ∙ total_same (λ j. get_or ts j 0) (λ j. mul (get_or (tab (length xs) w) j 0) (cell area s c (get_or xs j 0))) (length xs)
    (λ j h. W j h ∙ ap (λ (d : ℕ). mul d (v j)) (E j h) ∙ swap (get_or ds j 0) (cell area s c (get_or xs j 0)) (v j)
    ∙ ap (λ (u : ℕ). mul u (cell area s c (get_or xs j 0))) (sym (get_d_tab (length xs) w j h)))
    ∙ M.byte (tab (length xs) w) c q hc hq (λ j h. get_d_tab (length xs) w j h)
  where
    v : ℕ → ℕ
    v j = value (drop (suc q) m) (get_or xs j 0)

    w : ℕ → ℕ
    w j = mul (get_or ds j 0) (v j)

    swap : (d y v : ℕ) → mul (mul d y) v ≡ mul (mul d v) y
    swap d y v = L.mul_assoc d y v ∙ ap (mul d) (L.mul_comm y v) ∙ sym (L.mul_assoc d v y)

-- a byte is in the row of the one before, unless it begins one
pub row_before : (p k : ℕ) → 0 < k → 0 < p % k → (p - 1) / k ≡ p / k
row_before p k pos h =
    let a = N.div-add-mod' p k in
    let low : p / k * k ≤ p - 1 = omega arith in
    let high : (p - 1) / k < p / k + 1 = (N.div-lt_iff_lt-mul pos).1 (omega (arith, N.mod-lt p pos, N.add-mul (p / k) 1 k, N.one-mul k)) in
    N.le_antisymm (omega arith) ((N.le-div_iff_mul-le pos).1 low)

-- zeros from `end` on
pub ended : (row zs b : List ℕ) (k at end from : ℕ) → length row ≡ k → at ≤ end → from ≡ min (end - at) k → zs ≡ replicate (k - from) 0
    → ((q : ℕ) → q < k → get_or row q 0 ≡ get_or b (at + q) 0) → (q : ℕ) → q < k → get_or (put_mid from (k - from) row zs) q 0 ≡ fresh_byte end b (at + q)
unfolding fresh_byte
ended row zs b k at end from l room ef e h q g =
    ⊎_elim
    (λ lt. below lt ∙ h q g ∙ pick_on _ _ _ _ (lt-ltb (at + q) end (omega arith)) refl)
    (λ ge. above ge ∙ pick_off _ _ _ _ (le-ltb (at + q) end (omega arith)) refl)
    (lt_or_le q from)
  where
    below : q < from → get_or (put_mid from (k - from) row zs) q 0 ≡ get_or row q 0
    below lt = search (rules, places)

    above : from ≤ q → get_or (put_mid from (k - from) row zs) q 0 ≡ 0
    above ge = rw e (search (rules, places))

-- one byte more of a row, from the highest down
pub row_from : (k c i : ℕ) (b row : List ℕ) (x : ℕ) → 0 < i → i ≤ length row → ((q : ℕ) → i ≤ q → q < k → get_or row q 0 ≡ get_or b (c * k + q) 0)
    → x ≡ get_or b (c * k + (i - 1)) 0 → (q : ℕ) → i - 1 ≤ q → q < k → get_or (set row (i - 1) x) q 0 ≡ get_or b (c * k + q) 0
row_from k c i b row x pos l h e q g lt =
    ⊎_elim
    (λ z. subst (λ (q : ℕ). get_or (set row (i - 1) x) q 0 ≡ get_or b (c * k + q) 0) z (get_or-set_same row (i - 1) x 0 (omega arith) ∙ e))
    (λ z. get_or-set_other row (i - 1) q x 0 (λ s. omega arith) ∙ h q (omega arith) lt)
    (N.eq-or-lt_of_le g)
