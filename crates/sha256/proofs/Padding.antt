-- The bytes of a padded message.
-- Assumes nothing.
use Rattle.std.proofs.Common.{◌≡◌, ℕ, suc, ◌+◌, ◌-◌, ◌*◌, ◌/◌, ◌<◌, ◌≤◌, List, ◌∷◌, ◌++◌, length, get_or, replicate, ap, ◌∙◌, arith, length-append}
use lib.ListN.{length-replicate, get_or-replicate, get_or-append}
use Rattle.octets.proofs.Tables.{get_d_right, length_tab, get_d_tab}
use Rattle.octets.specs.Bytes.{tab}
use Rattle.sha256.specs.Sha256.{byte_of, pad_zeros, pad}

-- where the length's eight bytes start
abbrev pub tail : ℕ → ℕ
tail n = (n + 8) / 64 * 64 + 56

pub length_pad : (m : List ℕ) → length (pad m) ≡ tail (length m) + 8
unfolding pad pad_zeros
length_pad m =
    simp (length-append, length-replicate, length_tab) (omega arith)

-- what is put after the message, and after its one bit
abbrev after : List ℕ → List ℕ
after m = replicate (pad_zeros (length m)) 0 ++ tab 8 (byte_of 8 (8 * length m))

abbrev rest : List ℕ → List ℕ
rest m = 128 ∷ (after m)

module _ (m : List ℕ) (i : ℕ) where
  pub pad_in : i < length m → get_or (pad m) i 0 ≡ get_or m i 0
  unfolding pad
  pad_in h = get_or-append m (rest m) 0 i h

  pub pad_one : i ≡ length m → get_or (pad m) i 0 ≡ 128
  unfolding pad
  pad_one e =
      let z : i - length m ≡ 0 = omega arith in
      get_d_right m (rest m) i (omega arith) ∙ ap (λ (k : ℕ). get_or (rest m) k 0) z

  past : length m < i → get_or (pad m) i 0 ≡ get_or (after m) (i - length m - 1) 0
  unfolding pad
  past h =
      let s : i - length m ≡ suc (i - length m - 1) = omega arith in
      get_d_right m (rest m) i (omega arith) ∙ ap (λ (k : ℕ). get_or (rest m) k 0) s

  pub pad_zero : length m < i → i < tail (length m) → get_or (pad m) i 0 ≡ 0
  unfolding pad_zeros
  pad_zero a b =
      past a
      ∙ get_or-append (replicate (pad_zeros (length m)) 0) (tab 8 (byte_of 8 (8 * length m))) 0 (i - length m - 1) (rw length-replicate (omega arith))
      ∙ get_or-replicate (pad_zeros (length m)) (i - length m - 1) 0 0 (omega arith)

  pub pad_length : tail (length m) ≤ i → i < length (pad m) → get_or (pad m) i 0 ≡ byte_of 8 (8 * length m) (i - tail (length m))
  unfolding pad_zeros
  pad_length a b =
      let j : i - length m - 1 - pad_zeros (length m) ≡ i - tail (length m) = omega arith in
      past (omega arith)
      ∙ get_d_right (replicate (pad_zeros (length m)) 0) (tab 8 (byte_of 8 (8 * length m))) (i - length m - 1) (rw length-replicate (omega arith))
      ∙ rw (length-replicate, j) (get_d_tab 8 (byte_of 8 (8 * length m)) (i - tail (length m)) (omega (arith, length_pad m)))

-- the bytes of the two parts of a message
module _ (h b : List ℕ) (i : ℕ) where
  pub pad_head : i < length h → get_or (pad (h ++ b)) i 0 ≡ get_or h i 0
  pad_head lt = pad_in (h ++ b) i (omega (arith, length-append h b)) ∙ get_or-append h b 0 i lt

  pub pad_body : length h ≤ i → i < length h + length b → get_or (pad (h ++ b)) i 0 ≡ get_or b (i - length h) 0
  pad_body ge lt = pad_in (h ++ b) i (omega (arith, length-append h b)) ∙ get_d_right h b i ge
