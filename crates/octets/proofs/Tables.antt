-- A list that is filled from the front, one element a turn, and lists that are tabulated.
-- Assumes nothing.
use mathlib.Core.Path.{◌≡◌, refl, ap, ◌∙◌, sym}
use mathlib.Core.List.{[], List, ◌∷◌, ◌++◌}
use Prim.Native.Nat.{ℕ, zero, suc, ◌+◌, ◌-◌, ◌≤◌, ◌<◌}
use native.Mathlib.Nat.{not-suc-le-zero}
use native.Mathlib.Numerals.{add-one}
use native.Mathlib.Decide.{dec_lt}
use native.Mathlib.Omega.{arith}
use lib.ListN.{length, get_or, take, set, length-append, get_or-append}
use lib.Seq.{take-suc-set, get_or-append-add, take_all}
use Rattle.octets.specs.Bytes.{tab}

-- one more element stored
pub grown : (l p : List ℕ) (i v : ℕ) → i < length l → take i l ≡ p → take (i + 1) (set l i v) ≡ p ++ (v ∷ [])
grown l p i v h e = rw (add-one, take-suc-set l i v, e)

-- the last element stored
pub whole : (f : ℕ → List ℕ) (l : List ℕ) (i n : ℕ) → length l ≡ n → i ≡ n → take i l ≡ f i → l ≡ f n
whole f l i n len e h = sym (take_all i l (omega arith)) ∙ h ∙ ap f e

-- past the first list
pub get_d_right : (xs ys : List ℕ) (i : ℕ) → length xs ≤ i → get_or (xs ++ ys) i 0 ≡ get_or ys (i - length xs) 0
get_d_right xs ys i h =
    let e : i ≡ length xs + (i - length xs) = omega arith in
    ap (λ (k : ℕ). get_or (xs ++ ys) k 0) e ∙ get_or-append-add xs ys (i - length xs) 0

pub length_tab : (n : ℕ) (f : ℕ → ℕ) → length (tab n f) ≡ n
unfolding tab
length_tab zero f = refl
length_tab (suc n) f = length-append (tab n f) (f n ∷ []) ∙ omega (arith, length_tab n f)

pub get_d_tab : (n : ℕ) (f : ℕ → ℕ) (i : ℕ) → i < n → get_or (tab n f) i 0 ≡ f i
unfolding tab
get_d_tab zero f i h = absurd (not-suc-le-zero h)
get_d_tab (suc n) f i h =
    elim (dec_lt i n) [
      | yes lt ↦ get_or-append (tab n f) (f n ∷ []) 0 i (omega (arith, length_tab n f)) ∙ get_d_tab n f i lt
      | no ge ↦
          let e : i ≡ n = omega arith in
          let z : i - length (tab n f) ≡ 0 = omega (arith, length_tab n f) in
          get_d_right (tab n f) (f n ∷ []) i (omega (arith, length_tab n f)) ∙ ap (λ (k : ℕ). get_or (f n ∷ []) k 0) z ∙ ap f (sym e)
    ]

-- one more tabulated element stored
pub tab_step : (f : ℕ → ℕ) (l : List ℕ) (i x : ℕ) → i < length l → take i l ≡ tab i f → x ≡ f i → take (i + 1) (set l i x) ≡ tab (i + 1) f
unfolding tab
tab_step f l i x h e hx = grown l (tab i f) i x h e ∙ rw add-one (ap (λ (v : ℕ). tab i f ++ (v ∷ [])) hx)
