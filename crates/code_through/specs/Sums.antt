-- Working definitions of rebuilding by weights: each coefficient of a row is a sum of its known bytes, each times a weight.
-- Assumes nothing.
use Rattle.std.specs.Prelude.{◌≡◌, ◌≢◌, Bool, true, false, List, [], ◌∷◌, ℕ, suc, ◌+◌, ◌*◌, ◌<◌, ◌≤◌, length, get_or, drop}
use Rattle.field.specs.Field.{add, mul}
use Rattle.code.specs.Code.{value}
use Rattle.code_sum.specs.Sums.{cell, weighed}
use Rattle.code_through.specs.Fits.{Some, Wrote}

-- the quotient of c + X cs by X - r, whatever c: its lowest coefficient is cs at r
unfoldable pub quot : ℕ → List ℕ → List ℕ
quot r [] = []
quot r (d ∷ ds) = value (d ∷ ds) r ∷ quot r ds

-- the product of all z - x, x a point
unfoldable pub differences : List ℕ → ℕ → ℕ
differences [] z = 1
differences (x ∷ xs) z = mul (add z x) (differences xs z)

-- m has the coefficients of the product of all X - x, x a point
pub record Master (xs m : List ℕ) : Type 0 where
  pub size : length m ≡ suc (length xs)
  pub small : (i : ℕ) → get_or m i 0 < 256
  pub all : (z : ℕ) → value m z ≡ differences xs z
  pub root : (i : ℕ) → i < length xs → value m (get_or xs i 0) ≡ 0
  pub top : get_or m (length xs) 0 ≡ 1

-- ds has at j the inverse of the value at x, point j, of the quotient of m by X - x
abbrev pub Scales : List ℕ → List ℕ → List ℕ → Type 0
Scales xs m ds = (j : ℕ) → j < length xs → mul (value (quot (get_or xs j 0) (drop 1 m)) (get_or xs j 0)) (get_or ds j 0) ≡ 1

-- ws has the weights with which bytes at the points add up to coefficient i - 1
abbrev pub Weights : List ℕ → List ℕ → List ℕ → ℕ → List ℕ → Type 0
Weights xs m ds i ws = (j : ℕ) → j < length xs → get_or ws j 0 ≡ mul (get_or ds j 0) (value (drop i m) (get_or xs j 0))

-- ws has the weights with which bytes at the points add up to the value at z
abbrev pub Values : List ℕ → List ℕ → List ℕ → ℕ → List ℕ → Type 0
Values xs m ds z ws = (j : ℕ) → j < length xs → get_or ws j 0 ≡ mul (get_or ds j 0) (value (quot (get_or xs j 0) (drop 1 m)) z)

-- w is the weight of point x at z: its scale d times the product `at` of all differences over its own, by that one's inverse i; 1 at the point
-- itself, where the product is 0
pub record Weight (x z d at i w : ℕ) : Type 0 where
  pub away : (x ≡ z → ⊥) → w ≡ mul d (mul at i)
  pub here : x ≡ z → at ≡ 0 → w ≡ 1

-- byte c of fragment z is the sum of those of the fragments xs by their weights
abbrev pub Sums : List ℕ → ℕ → List ℕ → List ℕ → ℕ → ℕ → Type 0
Sums area s xs ws z c = weighed area s xs ws c (length xs) ≡ cell area s c z

-- ---- the steps

-- column m of rows of k bytes has the bytes of src, n of them, from row c on, and nothing else is written
pub record Scattered (src : List ℕ) (k m c n : ℕ) (old new : List ℕ) : Type 0 where
  pub each : (i : ℕ) → i < n → get_or new ((c + i) * k + m) 0 ≡ get_or src i 0
  pub before : (d : ℕ) → d < c → get_or new (d * k + m) 0 ≡ get_or old (d * k + m) 0
  pub other : (d q : ℕ) → q < k → q ≢ m → get_or new (d * k + q) 0 ≡ get_or old (d * k + q) 0
  pub after : (p : ℕ) → (c + n) * k ≤ p → get_or new p 0 ≡ get_or old p 0

-- column m of count rows of k bytes has the weighed bytes, and nothing else is written
pub record Column (area : List ℕ) (s : ℕ) (xs ws : List ℕ) (k m count : ℕ) (old new : List ℕ) : Type 0 where
  pub each : (c : ℕ) → c < count → get_or new (c * k + m) 0 ≡ weighed area s xs ws c (length xs)
  pub other : (d q : ℕ) → q < k → q ≢ m → get_or new (d * k + q) 0 ≡ get_or old (d * k + q) 0
  pub after : (p : ℕ) → count * k ≤ p → get_or new p 0 ≡ get_or old p 0

-- true, and the rows that give the fragments ps are written, where some give all of the fragments xs; or false, and nothing is written
pub record Remade (area : List ℕ) (s : ℕ) (ps xs : List ℕ) (count : ℕ) (old new : List ℕ) (r : Bool) : Type 0 where
  pub found : r ≡ true → ((c : ℕ) → c < count → Some area s c xs (length ps)) × Wrote area s ps count old new
  pub refused : r ≡ false → (new ≡ old) × (((c : ℕ) → c < count → Some area s c xs (length ps)) → ⊥)
