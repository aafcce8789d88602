-- Sums of fragments in an area, each byte times a weight.
-- Assumes nothing.
use Rattle.std.specs.Prelude.{◌≡◌, List, ℕ, zero, suc, ◌+◌, ◌-◌, ◌*◌, ◌<◌, ◌≤◌, length, get_or}
use Rattle.field.specs.Field.{add, mul}

-- byte c of fragment x, in an area with room s for each fragment
unfoldable pub cell : List ℕ → ℕ → ℕ → ℕ → ℕ
cell area s c x = get_or area ((x - 1) * s + c) 0

-- board numbers whose fragments lie in an area of the size
abbrev pub InArea : ℕ → ℕ → List ℕ → Type 0
InArea size s xs = (i : ℕ) → i < length xs → (0 < get_or xs i 0) × (get_or xs i 0 ≤ 64) × (get_or xs i 0 * s ≤ size)

-- f 0 + f 1 + .. : n terms
unfoldable pub total : (ℕ → ℕ) → ℕ → ℕ
total f zero = 0
total f (suc n) = add (total f n) (f n)

-- byte c of the first n of the fragments xs, each times its weight, added up
unfoldable pub weighed : List ℕ → ℕ → List ℕ → List ℕ → ℕ → ℕ → ℕ
weighed area s xs ws c n = total (λ j. mul (get_or ws j 0) (cell area s c (get_or xs j 0))) n

-- n bytes of old have w times the bytes of src from a place on added, and the others are as they were
pub record Added (w : ℕ) (src : List ℕ) (from n : ℕ) (old new : List ℕ) : Type 0 where
  pub each : (c : ℕ) → c < n → get_or new c 0 ≡ add (get_or old c 0) (mul w (get_or src (from + c) 0))
  pub rest : (c : ℕ) → n ≤ c → get_or new c 0 ≡ get_or old c 0
