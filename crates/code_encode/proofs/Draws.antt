-- A column drawn from a message's block, place after place.
-- Assumes nothing.
use mathlib.Core.Path.{◌≡◌, refl, ◌∙◌}
use mathlib.Core.Logic.{⊎_elim}
use mathlib.Core.List.{List}
use Prim.Native.Nat.{ℕ, suc, ◌+◌, ◌-◌, ◌*◌, ◌<◌, ◌≤◌}
use native.Mathlib.Omega.{arith}
use native.Mathlib.Nat as N
use lib.ListN.{length, get_or, set}
use Rattle.octets.proofs.Walk.{Walked, start, next, lt_or_le}
use Rattle.code.specs.Block.{rows}
use Rattle.code.proofs.Blocks.{not_more}
use Rattle.code_encode.specs.Patch.{Drawn}

-- the places from a to below i hold g
abbrev pub Drawing : ℕ → (ℕ → ℕ) → List ℕ → ℕ → List ℕ → Type 0
Drawing a g old i l = Walked (λ j v. (a ≤ j → v ≡ g j) × (j < a → v ≡ get_or old j 0)) old i l

pub drawing_start : (a : ℕ) (g : ℕ → ℕ) (old : List ℕ) → Drawing a g old a old
drawing_start a g old = start _ _ _ (λ j h. (λ l. absurd (omega arith), λ l. refl))

pub drawing_next : (a : ℕ) (g : ℕ → ℕ) (old : List ℕ) (i : ℕ) (l : List ℕ) (v : ℕ) → Drawing a g old i l → a ≤ i → i < length l → v ≡ g i
    → Drawing a g old (i + 1) (set l i v)
drawing_next a g old i l v w h b e = next _ _ i l v w b (λ z. e, λ z. absurd (omega arith))

pub drawn : (a e : ℕ) (g : ℕ → ℕ) (old : List ℕ) (i : ℕ) (l : List ℕ) → Drawing a g old i l → i ≡ e → a ≤ e → Drawn a e g old l
drawn a e g old i l w q h = record { each = λ j b t. (w.done j (omega arith)).0 b; before = λ j b. (w.done j (omega arith)).1 b }

-- three parts of a column, one after the other
pub drawn_all : (p q n : ℕ) (g : ℕ → ℕ) (a b c d : List ℕ) → Drawn 0 p g a b → Drawn p q g b c → Drawn q n g c d → p ≤ q → (i : ℕ) → i < n → get_or d i 0 ≡ g i
drawn_all p q n g a b c d u v w h i l =
    ⊎_elim (λ s. w.before i s ∙ ⊎_elim (λ t. v.before i t ∙ u.each i (omega arith) t) (λ t. v.each i t s) (lt_or_le i p)) (λ s. w.each i s l) (lt_or_le i q)

pub place_more : (from i k : ℕ) → from + i * k + k ≡ from + (i + 1) * k
place_more from i k = omega (arith, N.add-mul i 1 k, N.one-mul k)

-- rows c to c + n of a block, and where column m starts and ends in them
module _ (k : ℕ) (msg : List ℕ) (c n m : ℕ) (column : m < k) (inside : c + n ≤ rows k (length msg)) where
  pos : 0 < k
  pos = omega arith

  pub start_small : c * k + m ≤ length msg + 4 + k + k
  start_small = let h : c ≤ rows k (length msg) = omega arith in omega (arith, N.mul-le-mul_right k h, not_more k pos msg)

  pub count_small : n ≤ length msg + 4 + k
  count_small =
      omega (arith, N.mul-le-mul_left (rows k (length msg)) pos, N.mul-one (rows k (length msg)), not_more k pos msg)

  pub last_inside : 0 < n → c * k + m + (n - 1) * k < length msg + 4 + k
  last_inside g =
      let h : suc (c + (n - 1)) ≤ rows k (length msg) = omega arith in
      omega (arith, N.mul-le-mul_right k h, N.add-mul c (n - 1) k, not_more k pos msg)

pub place_next : (c k m i : ℕ) → c * k + m + i * k ≡ (c + i) * k + m
place_next c k m i = omega (arith, N.add-mul c i k)
