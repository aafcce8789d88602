-- Working definitions of a block that is not in memory: each of its bytes, and of its fragments' bytes, is a weighed sum of kept bytes.
-- Assumes nothing.
use Rattle.std.specs.Prelude.{◌≡◌, List, ℕ, suc, ◌+◌, ◌-◌, ◌*◌, ◌<◌, ◌≤◌, length, get_or}
use Rattle.code.specs.Code.{value, row}
use Rattle.code_sum.specs.Sums.{InArea}
use Rattle.code_sum.specs.Sums.{weighed}
use Rattle.code_through.specs.Sums.{Master, Scales, Weights, Values}

-- room for the k points xs and their scales ds; the kept fragments lie in an area of the size, in rooms of s bytes
pub record Ready (size s : ℕ) (xs ds : List ℕ) : Type 0 where
  pub boards : InArea size s xs
  pub short : s ≤ 16388
  pub some : 0 < length xs
  pub few : length xs ≤ 64
  pub scales : length ds ≡ length xs

-- b is the block of len rows whose bytes, and whose fragments' bytes, are the kept bytes by their weights; m is the product of all X - x, ds its scales
pub record Made (area : List ℕ) (s : ℕ) (xs m ds : List ℕ) (len : ℕ) (b : List ℕ) : Type 0 where
  pub product : Master xs m
  pub scales : Scales xs m ds
  pub size : length b ≡ len * length xs
  pub small : (p : ℕ) → get_or b p 0 < 256
  pub byte : (ws : List ℕ) (c q : ℕ) → c < len → q < length xs → Weights xs m ds (suc q) ws
      → weighed area s xs ws c (length xs) ≡ get_or b (c * length xs + q) 0
  pub at : (ws : List ℕ) (c z : ℕ) → c < len → Values xs m ds z ws → weighed area s xs ws c (length xs) ≡ value (row (length xs) b c) z

-- f is a fragment of len bytes: the kept bytes by the weights ws, and v in the last row
pub record Leaf (area : List ℕ) (s : ℕ) (xs ws : List ℕ) (v len : ℕ) (f : List ℕ) : Type 0 where
  pub size : length f ≡ len
  pub rows : (c : ℕ) → c + 1 < len → get_or f c 0 ≡ weighed area s xs ws c (length xs)
  pub last : get_or f (len - 1) 0 ≡ v

-- f is fragment z of a block whose rows are those of b, of k bytes, but the last, which is r
pub record Anew (k len : ℕ) (b r : List ℕ) (z : ℕ) (f : List ℕ) : Type 0 where
  pub size : length f ≡ len
  pub rows : (c : ℕ) → c + 1 < len → get_or f c 0 ≡ value (row k b c) z
  pub last : get_or f (len - 1) 0 ≡ value r z
