-- The fragments that are encoded afresh.
-- Assumes nothing.
use mathlib.Core.Path.{◌≡◌, sym, ◌∙◌}
use mathlib.Core.List.{List}
use Prim.Native.Nat.{ℕ}
use native.Mathlib.Omega.{arith}
use lib.ListN.{length}
use Rattle.code.specs.Code.{value}
use Rattle.code_through.specs.Sums.{Values}
use Rattle.deliver_afresh.specs.Working.{Made, Leaf, Anew}

-- a fragment of the block is the leaf by the weights of its element
pub anew_leaf : (area : List ℕ) (s : ℕ) (xs m ds : List ℕ) (len : ℕ) (b r ws : List ℕ) (z v : ℕ) (f : List ℕ) → Made area s xs m ds len b
    → Anew (length xs) len b r z f → Values xs m ds z ws → v ≡ value r z → Leaf area s xs ws v len f
anew_leaf area s xs m ds len b r ws z v f M a w e = record {
  size = a.size;
  rows = λ c h. a.rows c h ∙ sym (M.at ws c z (omega arith) w);
  last = a.last ∙ sym e;
}
