-- Rows of fragments, summed up column after column.
-- Assumes nothing.
use mathlib.Core.Path.{◌≡◌, sym, ap, ◌∙◌}
use mathlib.Core.List.{List, ◌++◌}
use Prim.Native.Nat.{ℕ, suc, ◌+◌, ◌*◌, ◌<◌, ◌≤◌}
use native.Mathlib.Omega.{arith}
use lib.ListN.{length, get_or, take}
use Rattle.field.specs.Field.{add, mul}
use Rattle.code.specs.Code.{value, row, fragment_byte}
use Rattle.code.specs.Block.{header, rows, block}
use Rattle.code_encode.specs.Patch.{Patch, plus_times}
use Rattle.code_encode.proofs.Patches.{patch_same, patch_as, patch_then}
use Rattle.code_encode.proofs.Sums.{power_of, power_one, power_next, sum_first, sum_more, sum_all}

-- byte c + d of the fragment of board first + i + 1, as far as the m lowest coefficients make it
abbrev pub summed : ℕ → List ℕ → ℕ → ℕ → ℕ → ℕ → ℕ → ℕ
summed k msg first c m i d = value (take m (row k (block k msg) (c + d))) (suc (first + i))

-- m columns are added, and each board's power is the m-th
pub record Summed (k : ℕ) (msg : List ℕ) (first count at s c n : ℕ) (old : List ℕ) (m : ℕ) (powers area : List ℕ) : Type 0 where
  pub power : (i : ℕ) → i < count → get_or powers i 0 ≡ power_of (suc (first + i)) m
  pub sums : Patch at count s n (summed k msg first c m) old area

module _ (k : ℕ) (pos : 0 < k) (msg : List ℕ) (first count at s c n : ℕ) (inside : c + n ≤ rows k (length msg)) (old : List ℕ) where
  -- the first column is laid in every room
  pub summed_first : (column powers area : List ℕ) → first + count ≤ 64
      → ((d : ℕ) → d < n → get_or column d 0 ≡ get_or (header (length msg) ++ msg) ((c + d) * k + 0) 0)
      → Patch at count s n (λ i d. get_or column d 0) old area → ((i : ℕ) → i < count → get_or powers i 0 ≡ suc (first + i))
      → Summed k msg first count at s c n area 1 powers area
  summed_first column powers area few e w p = record {
    power = λ i h. p i h ∙ sym (power_one (suc (first + i)) (omega arith));
    sums = patch_same at count s n (summed k msg first c 1) area
        (λ i d h b. w.each i d h b ∙ sum_first k pos msg (c + d) (omega arith) (suc (first + i)) (get_or column d 0) (e d b));
  }

  -- the next one is added, times the powers, and they are raised
  pub summed_next : (m : ℕ) (column powers raised area new : List ℕ) → m < k → Summed k msg first count at s c n old m powers area
      → ((d : ℕ) → d < n → get_or column d 0 ≡ get_or (header (length msg) ++ msg) ((c + d) * k + m) 0) → ((d : ℕ) → get_or column d 0 < 256)
      → Patch at count s n (plus_times at s powers column area) area new
      → ((i : ℕ) → i < count → get_or raised i 0 ≡ mul (suc (first + i)) (get_or powers i 0)) → Summed k msg first count at s c n old (m + 1) raised new
  summed_next m column powers raised area new l w e bytes t p = record {
    power = λ i h. p i h ∙ power_next (suc (first + i)) m (get_or powers i 0) (w.power i h);
    sums = patch_as at count s n (plus_times at s powers column area) old (summed k msg first c (m + 1)) new
        (patch_then at count s n (summed k msg first c m) old (plus_times at s powers column area) area new w.sums t)
        (λ i d h b. ap (λ (v : ℕ). add v (mul (get_or powers i 0) (get_or column d 0))) (w.sums.each i d h b)
        ∙ sum_more k pos msg (c + d) (omega arith) (suc (first + i)) m (get_or powers i 0) (get_or column d 0) l (bytes d) (w.power i h) (e d b));
  }

  pub summed_all : (powers area : List ℕ) → Summed k msg first count at s c n old k powers area
      → Patch at count s n (λ i d. fragment_byte k (block k msg) (suc (first + i)) (c + d)) old area
  summed_all powers area w =
      patch_as at count s n (summed k msg first c k) old (λ i d. fragment_byte k (block k msg) (suc (first + i)) (c + d)) area w.sums
      (λ i d h b. sum_all k pos msg (c + d) (omega arith) (suc (first + i)))
