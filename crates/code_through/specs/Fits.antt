-- Working definitions of the steps of rebuilding: rows of k bytes that give the fragments in an area.
-- Assumes nothing.
use Rattle.std.specs.Prelude.{◌≡◌, List, map, ℕ, ◌+◌, ◌*◌, ◌<◌, ◌≤◌, length, get_or}
use Rattle.code_sum.specs.Sums.{cell}
use Rattle.field.specs.Field.{add, mul}
use Rattle.code.specs.Code.{All, Byte, value, row}

-- the row r gives byte c of each of the fragments xs
abbrev pub Fit : List ℕ → ℕ → ℕ → List ℕ → List ℕ → Type 0
Fit area s c xs r = map (value r) xs ≡ map (cell area s c) xs

-- r is the one row of bytes that gives byte c of the fragments xs
pub record Solved (area : List ℕ) (s c : ℕ) (xs r : List ℕ) : Type 0 where
  pub fits : Fit area s c xs r
  pub only : (q : List ℕ) → length q ≡ length xs → All Byte q → Fit area s c xs q → q ≡ r

-- some row of k bytes gives byte c of each of the fragments xs
pub record Some (area : List ℕ) (s c : ℕ) (xs : List ℕ) (k : ℕ) : Type 0 where
  pub line : List ℕ
  pub size : length line ≡ k
  pub bytes : All Byte line
  pub fits : Fit area s c xs line

-- ps are the first of xs
pub record First (ps xs : List ℕ) : Type 0 where
  pub fewer : length ps ≤ length xs
  pub same : (i : ℕ) → i < length ps → get_or ps i 0 ≡ get_or xs i 0

-- count rows are written that give the fragments ps, and nothing else
pub record Wrote (area : List ℕ) (s : ℕ) (ps : List ℕ) (count : ℕ) (old new : List ℕ) : Type 0 where
  pub each : (c : ℕ) → c < count → Solved area s c ps (row (length ps) new c)
  pub after : (p : ℕ) → count * length ps ≤ p → get_or new p 0 ≡ get_or old p 0

-- from j on stand the coefficients of y + (X - x) q, where y, q0, q1, .. stood
pub record Attached (x j : ℕ) (old new : List ℕ) : Type 0 where
  pub kept : (i : ℕ) → i < j → get_or new i 0 ≡ get_or old i 0
  pub each : (i : ℕ) → j ≤ i → i < length old → get_or new i 0 ≡ add (get_or old i 0) (mul x (get_or old (i + 1) 0))
