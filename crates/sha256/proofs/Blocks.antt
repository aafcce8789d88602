-- The words of a padded message, its blocks, and the chaining over them.
-- Assumes nothing.
use Rattle.std.proofs.Common.{◌≡◌, ℕ, zero, suc, ◌+◌, ◌-◌, ◌*◌, ◌/◌, ◌%◌, ◌<◌, ◌≤◌, List, [], ◌∷◌, ◌++◌, length, get_or, sym, refl, ap, ◌∙◌, ap₂, ⊎_elim, arith, lt-ltb}
use Rattle.octets.specs.Bytes.{pick, part, tab, four_at}
use Rattle.octets.proofs.Walk.{lt_or_le}
use Rattle.octets.proofs.Parts.{get_d_part, part_front, part_all}
use Rattle.sha256.specs.Tables.{H0}
use Rattle.sha256.specs.Sha256.{byte_of, word_at, next_word, words, rounds, sums, compress, pad, block_at, chain, digest, sha256}
use Rattle.sha256.specs.Chain.{chain_from}
use Rattle.sha256.proofs.Padding.{tail, length_pad, pad_zero, pad_length, pad_head, pad_body}

-- ---- the word at a place

pub word_made : (p : List ℕ) (i r a b c d : ℕ) → r ≡ (a * 256 + b) * 65536 + (c * 256 + d)
    → a ≡ get_or p i 0 → b ≡ get_or p (i + 1) 0 → c ≡ get_or p (i + 2) 0 → d ≡ get_or p (i + 3) 0 → r ≡ four_at p i
unfolding four_at
word_made p i r a b c d hr ha hb hc hd = let e : i + 2 + 1 ≡ i + 3 = omega arith in rw (hr, ha, hb, hc, hd, e)

-- inside the body
pub word_inside : (h b : List ℕ) (i : ℕ) → length h ≤ i → i + 4 ≤ length h + length b → four_at b (i - length h) ≡ four_at (pad (h ++ b)) i
unfolding four_at
word_inside h b i low high =
    let e : i + 1 - length h ≡ i - length h + 1 = omega arith in
    let f : i + 2 - length h ≡ i - length h + 2 = omega arith in
    let g : i + 2 + 1 - length h ≡ i - length h + 2 + 1 = omega arith in
    rw (
      pad_body h b i low (omega arith),
      pad_body h b (i + 1) (omega arith) (omega arith),
      pad_body h b (i + 2) (omega arith) (omega arith),
      pad_body h b (i + 2 + 1) (omega arith) (omega arith),
      e,
      f,
      g,
    )

-- the word at a place of a part
four_part : (s : List ℕ) (a n i : ℕ) → i + 3 < n → four_at (part a n s) i ≡ four_at s (a + i)
unfolding four_at
four_part s a n i h =
    let p : a + (i + 1) ≡ a + i + 1 = omega arith in
    let q : a + (i + 2) ≡ a + i + 2 = omega arith in
    let r : a + (i + 2 + 1) ≡ a + i + 2 + 1 = omega arith in
    rw (
      get_d_part a n i s (omega arith),
      get_d_part a n (i + 1) s (omega arith),
      get_d_part a n (i + 2) s (omega arith),
      get_d_part a n (i + 2 + 1) s (omega arith),
      p,
      q,
      r,
    )

-- words t to u of the block from `at` on, of the body's rest from the first of them on
pub words_inside : (h b : List ℕ) (at t u : ℕ) → length h ≤ at + 4 * t → at + 4 * u ≤ length h + length b
    → (j : ℕ) → t + j < u → four_at (pad (h ++ b)) (at + 4 * (t + j)) ≡ four_at (part (at + 4 * t - length h) (length b - (at + 4 * t - length h)) b) (4 * j)
words_inside h b at t u low high j lt =
    let from = at + 4 * t - length h in
    let e : at + 4 * (t + j) - length h ≡ from + 4 * j = omega arith in
    sym (word_inside h b (at + 4 * (t + j)) (omega arith) (omega arith)) ∙ ap (four_at b) e ∙ sym (four_part b from (length b - from) (4 * j) (omega arith))

-- the first word, where one byte stands before the body
pub word_first : (h b : List ℕ) (x : ℕ) → length h ≡ 1 → 3 ≤ length b
    → x ≡ (get_or h 0 0 * 256 + get_or b 0 0) * 65536 + (get_or b 1 0 * 256 + get_or b 2 0) → x ≡ four_at (pad (h ++ b)) 0
word_first h b x one few hx =
    let inside : (i : ℕ) → i < 3 → get_or b i 0 ≡ get_or (pad (h ++ b)) (i + 1) 0 = λ i lt.
    let e : i + 1 - length h ≡ i = omega arith in ap (λ (k : ℕ). get_or b k 0) (sym e) ∙ sym (pad_body h b (i + 1) (omega arith) (omega arith)) in
    word_made (pad (h ++ b)) 0 x (get_or h 0 0) (get_or b 0 0) (get_or b 1 0) (get_or b 2 0) hx (sym (pad_head h b 0 (omega arith)))
    (inside 0 (omega arith)) (inside 1 (omega arith)) (inside 2 (omega arith))

-- ---- past the message

module _ (m : List ℕ) (i : ℕ) where
  pub word_zero : length m < i → i + 3 < tail (length m) → 0 ≡ four_at (pad m) i
  unfolding four_at
  word_zero low high =
      rw (
        pad_zero m i low (omega arith),
        pad_zero m (i + 1) (omega arith) (omega arith),
        pad_zero m (i + 2) (omega arith) (omega arith),
        pad_zero m (i + 2 + 1) (omega arith) (omega arith),
      )

  -- byte j of the length
  length_at : (j : ℕ) → j < 8 → i ≡ tail (length m) → get_or (pad m) (i + j) 0 ≡ byte_of 8 (8 * length m) j
  length_at j lt e =
      let f : i + j - tail (length m) ≡ j = omega arith in
      pad_length m (i + j) (omega arith) (omega (arith, length_pad m)) ∙ ap (byte_of 8 (8 * length m)) f

-- the length's high four bytes and its low four, of a number that is short enough
high_bytes : (x : ℕ) → x ≤ 524288 → (byte_of 8 x 0 ≡ 0) × (byte_of 8 x 1 ≡ 0) × (byte_of 8 x 2 ≡ 0) × (byte_of 8 x 3 ≡ 0)
unfolding byte_of
high_bytes x h = (omega arith, omega arith, omega arith, omega arith)

four_bytes : (x a b c d : ℕ) → a ≡ 0 → b ≡ x / 65536 → c + 256 * (x / 65536) ≡ x / 256 → d + 256 * (x / 256) ≡ x
    → (a * 256 + b) * 65536 + (c * 256 + d) ≡ x
four_bytes x a b c d ha hb hc hd = omega arith

low_bytes : (x : ℕ) → x ≤ 524288 → (byte_of 8 x 4 * 256 + byte_of 8 x 5) * 65536 + (byte_of 8 x 6 * 256 + byte_of 8 x 7) ≡ x
unfolding byte_of
low_bytes x h =
    let e : x / 65536 ≡ x / 256 / 256 = omega arith in
    four_bytes x _ _ _ _ (omega arith) (omega arith) (omega arith) (omega arith)

module _ (m : List ℕ) (i : ℕ) (few : length m ≤ 65536) where
  word_high : i ≡ tail (length m) → 0 ≡ four_at (pad m) i
  word_high e =
      let z = high_bytes (8 * length m) (omega arith) in
      word_made (pad m) i 0 0 0 0 0 refl
      (sym (ap (λ (j : ℕ). get_or (pad m) j 0) (omega arith) ∙ length_at m i 0 (omega arith) e ∙ z.0))
      (sym (length_at m i 1 (omega arith) e ∙ z.1))
      (sym (length_at m i 2 (omega arith) e ∙ z.2))
      (sym (length_at m i 3 (omega arith) e ∙ z.3))

  word_low : i ≡ tail (length m) + 4 → 8 * length m ≡ four_at (pad m) i
  word_low e =
      let f : tail (length m) ≡ tail (length m) = refl in
      word_made (pad m) i (8 * length m) _ _ _ _ (sym (low_bytes (8 * length m) (omega arith)))
      (sym (ap (λ (j : ℕ). get_or (pad m) j 0) (omega arith) ∙ length_at m (tail (length m)) 4 (omega arith) f))
      (sym (ap (λ (j : ℕ). get_or (pad m) j 0) (omega arith) ∙ length_at m (tail (length m)) 5 (omega arith) f))
      (sym (ap (λ (j : ℕ). get_or (pad m) j 0) (omega arith) ∙ length_at m (tail (length m)) 6 (omega arith) f))
      (sym (ap (λ (j : ℕ). get_or (pad m) j 0) (omega arith) ∙ length_at m (tail (length m)) 7 (omega arith) f))

-- the word at a place past a message, by where it is in its block
module _ (m : List ℕ) (n i : ℕ) (len : length m ≡ n) (few : n ≤ 65536) (low : n < i) (four : i % 4 ≡ 0) (high : i < (n + 8) / 64 * 64 + 64) where
  pub pad_early : i % 64 < 60 → 0 ≡ four_at (pad m) i
  pad_early h =
      ⊎_elim
      (λ (lt : i < (n + 8) / 64 * 64 + 56). word_zero m i (omega arith) (rw len (omega arith)))
      (λ (ge : (n + 8) / 64 * 64 + 56 ≤ i). word_high m i (omega arith) (rw len (omega arith)))
      (lt_or_le i ((n + 8) / 64 * 64 + 56))

  pub pad_full : 60 ≤ i % 64 → i ≤ n + 4 → 0 ≡ four_at (pad m) i
  pad_full h near = word_zero m i (omega arith) (rw len (omega arith))

  pub pad_last : 60 ≤ i % 64 → n + 4 < i → 8 * n ≡ four_at (pad m) i
  pad_last h far = ap (λ (k : ℕ). 8 * k) (sym len) ∙ word_low m i (omega arith) (rw len (omega arith))

-- ---- a block

spread : (p : List ℕ) (a b c d : ℕ) → b ≡ a + 1 → c ≡ a + 2 → d ≡ a + 2 + 1
    → get_or p a 0 * 16777216 + get_or p b 0 * 65536 + get_or p c 0 * 256 + get_or p d 0
    ≡ (get_or p a 0 * 256 + get_or p (a + 1) 0) * 65536 + (get_or p (a + 2) 0 * 256 + get_or p (a + 2 + 1) 0)
spread p a b c d e f g = rw (e, f, g) (omega arith)

-- word t of the block from `at` on, whatever words stand before it
front : (p : List ℕ) (at : ℕ) (ws : List ℕ) (t : ℕ) → t < 16 → next_word (part at 64 p) ws t ≡ four_at p (at + 4 * t)
unfolding next_word pick word_at four_at
front p at ws t h =
    rw (
      lt-ltb t 16 h,
      get_d_part at 64 (4 * t) p (omega arith),
      get_d_part at 64 (4 * t + 1) p (omega arith),
      get_d_part at 64 (4 * t + 2) p (omega arith),
      get_d_part at 64 (4 * t + 3) p (omega arith),
    ) (spread p (at + 4 * t) (at + (4 * t + 1)) (at + (4 * t + 2)) (at + (4 * t + 3)) (omega arith) (omega arith) (omega arith))

-- the words of a block are those of the message
words_front : (p : List ℕ) (at t : ℕ) → t ≤ 16 → words (part at 64 p) t ≡ tab t (λ j. four_at p (at + 4 * j))
unfolding words tab
words_front p at zero h = refl
words_front p at (suc t) h =
    ap₂ (λ (l : List ℕ) (x : ℕ). l ++ (x ∷ [])) (words_front p at t (omega arith)) (front p at (words (part at 64 p) t) t (omega arith))

-- block k, where it starts at `at`
block_at_lem : (p : List ℕ) (at : ℕ) → at % 64 ≡ 0 → part at 64 p ≡ block_at (at / 64) p
unfolding block_at
block_at_lem p at h = let e : at ≡ 64 * (at / 64) = omega arith in ap (λ (i : ℕ). part i 64 p) e

-- ---- the chaining

-- a block of 64 bytes stands first in its own padded message
pub one_block : (b h r : List ℕ) → length b ≡ 64 → r ≡ compress h (block_at 0 (pad b)) → r ≡ compress h b
unfolding block_at pad
one_block b h r len hr = hr ∙ ap (compress h) (part_front 0 64 b _ (omega arith) ∙ part_all 64 b len)

chain_from_lem : (p : List ℕ) (n : ℕ) → chain_from H0 n p ≡ chain n p
unfolding chain_from chain
chain_from_lem p zero = refl
chain_from_lem p (suc n) = ap (λ (h : List ℕ). compress h (block_at n p)) (chain_from_lem p n)

-- all blocks, from the starting words on, and the digest
pub all_blocks : (m first h : List ℕ) (n : ℕ) → n ≡ length (pad m) → first ≡ H0 → h ≡ chain_from first (n / 64) (pad m) → digest h ≡ sha256 m
unfolding sha256
all_blocks m first h n hn hf hh = ap digest (hh ∙ rw (hn, hf) (chain_from_lem (pad m) (length (pad m) / 64)))

-- the rounds over a block's schedule, added
pub mixed_made : (b h w s r : List ℕ) → w ≡ words b 64 → s ≡ rounds w 64 h → r ≡ sums h s → r ≡ compress h b
unfolding compress
mixed_made b h w s r hw hs hr = rw (hr, hs, hw)

-- the words from `at` on are those of a block
pub block_on : (h r p l : List ℕ) (at : ℕ) → at % 64 ≡ 0 → l ≡ tab 16 (λ t. four_at p (at + 4 * t))
    → ((b : List ℕ) → l ≡ words b 16 → r ≡ compress h b) → r ≡ compress h (block_at (at / 64) p)
block_on h r p l at z hl hr =
    hr (block_at (at / 64) p) (hl ∙ sym (words_front p at 16 (omega arith)) ∙ ap (λ (b : List ℕ). words b 16) (block_at_lem p at z))

-- the block from `at` on, taken in
pub chain_on : (first h r p : List ℕ) (at : ℕ) → at % 64 ≡ 0 → h ≡ chain_from first (at / 64) p → r ≡ compress h (block_at (at / 64) p)
    → r ≡ chain_from first ((at + 64) / 64) p
unfolding chain_from
chain_on first h r p at z hh hr = let e : (at + 64) / 64 ≡ suc (at / 64) = omega arith in hr ∙ rw (hh, e)

-- eight words stay eight
pub chain_length : (first h p : List ℕ) (n : ℕ) → first ≡ H0 → h ≡ chain_from first n p → length h ≡ 8
unfolding chain_from compress sums H0
chain_length first h p zero hf hh = ap length (hh ∙ hf)
chain_length first h p (suc n) hf hh = ap length hh
