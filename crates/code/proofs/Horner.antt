-- A polynomial's value from its highest coefficient down.
-- Assumes nothing.
use mathlib.Core.Path.{◌≡◌, ap, ◌∙◌}
use mathlib.Core.List.{List}
use Prim.Native.Nat.{ℕ, suc, ◌-◌, ◌<◌, ◌≤◌}
use native.Mathlib.Omega.{arith}
use lib.ListN.{length, get_or, drop}
use lib.Seq.{drop-length, drop-cons}
use Rattle.field.specs.Field.{add, mul}
use Rattle.code.specs.Code.{value}

pub value_none : (r : List ℕ) (x : ℕ) → value (drop (length r) r) x ≡ 0
unfolding value
value_none r x = ap (λ (l : List ℕ). value l x) (drop-length r)

pub value_next : (r : List ℕ) (x j : ℕ) → 0 < j → j ≤ length r
    → value (drop (j - 1) r) x ≡ add (get_or r (j - 1) 0) (mul x (value (drop j r) x))
unfolding value
value_next r x j h l =
    ap (λ (l : List ℕ). value l x) (drop-cons r (j - 1) 0 (omega arith))
    ∙ ap (λ (i : ℕ). add (get_or r (j - 1) 0) (mul x (value (drop i r) x))) back
  where
    back : suc (j - 1) ≡ j
    back = omega arith
