-- Bytes compared without a branch: the or of all that they differ in.
-- Assumes nothing.
use mathlib.Core.Path.{◌≡◌, sym, ap, ap₂, ◌∙◌}
use mathlib.Core.List.{List}
use Prim.Native.Nat.{ℕ, ◌+◌, ◌-◌, ◌<◌, ◌≤◌}
use native.Mathlib.Omega.{arith}
use lib.ListN.{length, get_or, take, drop}
use lib.Seq.{get_or-take, length-take-le}
use borrow.Author.Count.{below_more}
use lib.Bits.{bit_or, or_add_and, and_le_l, and_le_r}
use Rattle.field.specs.Field.{add}
use Rattle.field.proofs.Laws as L
use Rattle.code_sum.proofs.Weighing.{slice_byte}

-- bytes of which none is set, together
or_none : (a b : ℕ) → bit_or a b ≡ 0 → (a ≡ 0) × (b ≡ 0)
or_none a b e = (omega (arith, or_add_and a b, and_le_l a b, and_le_r a b), omega (arith, or_add_and a b, and_le_l a b, and_le_r a b))

-- the first n bytes of a are those of b
abbrev pub Same : List ℕ → List ℕ → ℕ → Type 0
Same a b n = (i : ℕ) → i < n → get_or a i 0 ≡ get_or b i 0

-- one byte more is compared
pub same_more : (a b : List ℕ) (n i differ : ℕ) → i < n → (differ ≡ 0 → Same a b i) → (Same a b i → differ ≡ 0)
    → (i + 1 ≤ n) × (bit_or differ (add (get_or a i 0) (get_or b i 0)) ≡ 0 → Same a b (i + 1))
    × (Same a b (i + 1) → bit_or differ (add (get_or a i 0) (get_or b i 0)) ≡ 0)
same_more a b n i differ h f g = (
  omega arith,
  (λ e. let o = or_none differ (add (get_or a i 0) (get_or b i 0)) e in
      below_more (λ (j : ℕ). get_or a j 0 ≡ get_or b j 0) i (f o.0) (L.equal (get_or a i 0) (get_or b i 0) o.1)),
  λ s. ap₂ bit_or (g (λ j l. s j (omega arith))) (ap (λ (v : ℕ). add v (get_or b i 0)) (s i (omega arith)) ∙ L.add_self (get_or b i 0)),
)

-- the first n bytes of a sum and n bytes of the area from a place on, as slices and in their lists
module _ (sum area : List ℕ) (from n : ℕ) (room : n ≤ length sum) where
  pub same_in_lists : Same (take n sum) (take (from + n - from) (drop from area)) (length (take n sum))
      → (i : ℕ) → i < n → get_or sum i 0 ≡ get_or area (from + i) 0
  same_in_lists f i h = sym (get_or-take n sum i 0 h) ∙ f i (omega (arith, length-take-le n sum room)) ∙ slice_byte area from n i h

  pub same_in_slices : ((i : ℕ) → i < n → get_or sum i 0 ≡ get_or area (from + i) 0)
      → Same (take n sum) (take (from + n - from) (drop from area)) (length (take n sum))
  same_in_slices f i h =
      let b : i < n = omega (arith, length-take-le n sum room) in get_or-take n sum i 0 b ∙ f i b ∙ sym (slice_byte area from n i b)
