-- The string that a leaf is the hash of, a zero and then the fragment, in blocks of 64 bytes.
-- Assumes nothing.
use mathlib.Core.Path.{◌≡◌, sym, ap, ◌∙◌}
use mathlib.Core.Logic.{⊎_elim}
use mathlib.Core.List.{List, ◌∷◌}
use Prim.Native.Nat.{ℕ, suc, ◌+◌, ◌-◌, ◌*◌, ◌/◌, ◌<◌, ◌≤◌}
use native.Mathlib.Omega.{arith}
use lib.ListN.{length, get_or}
use lib.Seq.{ext_get_or}
use Rattle.octets.proofs.Laws.{length_part}
use Rattle.octets.proofs.Walk.{lt_or_le}
use Rattle.code_sum.specs.Sums.{weighed}
use Rattle.octets.proofs.Parts.{get_d_part}
use Rattle.sha256.specs.Tables.{H0}
use Rattle.sha256.specs.Sha256.{sums, compress, pad, block_at, chain, digest, sha256}
use Rattle.octets.specs.Bytes.{put}
use Rattle.tree.specs.Tree.{leaf_hash}
use Rattle.sha256.proofs.Padding.{length_pad, pad_in}
use Rattle.deliver_afresh.specs.Working.{Leaf}

-- byte k of the 64 from `at` on, after the end is filled in: x, where `old` stood before
abbrev pub Ended : ℕ → ℕ → List ℕ → List ℕ → ℕ → ℕ → Type 0
Ended at len old f k x = (at + k < len → x ≡ get_or old k 0) × (len ≤ at + k → x ≡ get_or (pad (0 ∷ f)) (at + k) 0)

-- the fragment's bytes come after the zero
pub in_string : (f : List ℕ) (i : ℕ) → 0 < i → i ≤ length f → get_or (pad (0 ∷ f)) i 0 ≡ get_or f (i - 1) 0
in_string f i h g = pad_in (0 ∷ f) i (omega arith) ∙ ap (λ (j : ℕ). get_or (0 ∷ f) j 0) back
  where
    back : i ≡ suc (i - 1)
    back = omega arith

pub first_string : (f : List ℕ) → get_or (pad (0 ∷ f)) 0 0 ≡ 0
first_string f = pad_in (0 ∷ f) 0 (omega arith)

pub length_string : (f : List ℕ) (len : ℕ) → length f ≡ len → length (pad (0 ∷ f)) ≡ (len + 9) / 64 * 64 + 64
length_string f len e = omega (arith, length_pad (0 ∷ f))

-- 64 bytes, of which the rows before the last and then the end are filled in, are the block
module _ (area : List ℕ) (s : ℕ) (xs ws : List ℕ) (v len j : ℕ) (f mid new : List ℕ) (some : 0 < len) (room : 64 * j ≤ (len + 9) / 64 * 64)
    (l : Leaf area s xs ws v len f) (size : length new ≡ 64)
    (first : 64 * j ≡ 0 → get_or mid 0 0 ≡ 0)
    (rows : (i : ℕ) → i < 64 → 0 < 64 * j + i → 64 * j + i < len → get_or mid i 0 ≡ weighed area s xs ws (64 * j + i - 1) (length xs))
    (ended : (i : ℕ) → i < 64 → Ended (64 * j) len mid f i (get_or new i 0)) where
  early : (i : ℕ) → i < 64 → 64 * j + i < len → get_or mid i 0 ≡ get_or (pad (0 ∷ f)) (64 * j + i) 0
  early i h g =
      ⊎_elim
      (λ p. rows i h p g ∙ sym (l.rows (64 * j + i - 1) (omega arith)) ∙ sym (in_string f (64 * j + i) p (omega (arith, l.size))))
      (λ p.
      let zi : i ≡ 0 = omega arith in
      let zj : 64 * j ≡ 0 = omega arith in
      let z : 64 * j + i ≡ 0 = omega arith in
      ap (λ (i : ℕ). get_or mid i 0) zi ∙ first zj ∙ sym (ap (λ (i : ℕ). get_or (pad (0 ∷ f)) i 0) z ∙ first_string f))
      (lt_or_le 0 (64 * j + i))

  pub filled : new ≡ block_at j (pad (0 ∷ f))
  unfolding block_at
  filled =
      ext_get_or 0 new (block_at j (pad (0 ∷ f))) (size ∙ sym (length_part (64 * j) 64 (pad (0 ∷ f)) (omega (arith, length_string f len l.size))))
      (λ i g.
      let h : i < 64 = omega (arith, size) in
      ⊎_elim (λ b. (ended i h).0 b ∙ early i h b) (λ b. (ended i h).1 b) (lt_or_le (64 * j + i) len)
      ∙ sym (get_d_part (64 * j) 64 i (pad (0 ∷ f)) h))

-- ---- the blocks, one after the other

-- the chaining words are eight
pub eight_words : (h b r : List ℕ) → r ≡ compress h b → length r ≡ 8
unfolding compress sums
eight_words h b r c = ap length c

pub eight_first : (h : List ℕ) → h ≡ H0 → length h ≡ 8
unfolding H0
eight_first h e = ap length e

-- after all blocks they are the leaf
pub leaf_done : (f h w new : List ℕ) (at len j : ℕ) → length f ≡ len → j ≡ (len + 73) / 64 → h ≡ chain j (pad (0 ∷ f)) → new ≡ put at (digest h) w
    → new ≡ put at (leaf_hash sha256 f) w
unfolding leaf_hash sha256
leaf_done f h w new at len j e n c d =
    d ∙ ap (λ (h : List ℕ). put at (digest h) w) (c ∙ ap (λ (j : ℕ). chain j (pad (0 ∷ f))) all)
  where
    all : j ≡ length (pad (0 ∷ f)) / 64
    all = omega (arith, length_string f len e)
