-- Laws of weighed sums, and of the rooms that their fragments stand in.
-- Assumes nothing.
use mathlib.Core.Path.{◌≡◌, refl, ap, ◌∙◌}
use mathlib.Core.List.{List}
use Prim.Native.Nat.{ℕ, suc, ◌+◌, ◌-◌, ◌*◌, ◌<◌, ◌≤◌}
use native.Mathlib.Nat as N
use native.Mathlib.Omega.{arith}
use native.Mathlib.Numerals.{add-one}
use lib.ListN.{length, get_or, take, drop, length-drop}
use lib.Seq.{get_or-take, get_or-drop, length-take-le}
use Rattle.field.specs.Field.{add, mul}
use Rattle.code_sum.specs.Sums.{cell, total, weighed}

-- one fragment more is added
pub weighed_next : (area : List ℕ) (s : ℕ) (xs ws : List ℕ) (c j : ℕ)
    → weighed area s xs ws c (j + 1) ≡ add (weighed area s xs ws c j) (mul (get_or ws j 0) (cell area s c (get_or xs j 0)))
unfolding weighed total
weighed_next area s xs ws c j = ap (total (λ q. mul (get_or ws q 0) (cell area s c (get_or xs q 0)))) (add-one j)

pub weighed_none : (area : List ℕ) (s : ℕ) (xs ws : List ℕ) (c : ℕ) → weighed area s xs ws c 0 ≡ 0
unfolding weighed total
weighed_none area s xs ws c = refl

-- n bytes from byte c on, in room x
pub room : (x s c n size : ℕ) → 0 < x → c + n ≤ s → x * s ≤ size → (x - 1) * s + c + n ≤ size
room x s c n size h g l = go (x - 1) (omega arith)
  where
    go : (y : ℕ) → suc y ≡ x → y * s + c + n ≤ size
    go y e = omega (arith, ap (λ (z : ℕ). z * s) e)

pub place_cell : (area : List ℕ) (s c i x : ℕ) → get_or area ((x - 1) * s + c + i) 0 ≡ cell area s (c + i) x
unfolding cell
place_cell area s c i x = ap (λ (p : ℕ). get_or area p 0) (N.add_assoc ((x - 1) * s) c i)

-- n bytes of the area from a place on, as a slice: how many they are, and byte i of them
pub slice_length : (area : List ℕ) (from n : ℕ) → from + n ≤ length area → length (take (from + n - from) (drop from area)) ≡ n
slice_length area from n h = length-take-le (from + n - from) (drop from area) (omega (arith, length-drop {A = ℕ} from area)) ∙ omega arith

pub slice_byte : (area : List ℕ) (from n i : ℕ) → i < n → get_or (take (from + n - from) (drop from area)) i 0 ≡ get_or area (from + i) 0
slice_byte area from n i h = get_or-take (from + n - from) (drop from area) i 0 (omega arith) ∙ get_or-drop from area i 0
