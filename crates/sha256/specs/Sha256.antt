-- FIPS 180-4, SHA-256: sections 5.1.1 (padding), 5.2.1 (blocks) and 6.2 (the computation). A message is a list of bytes.
use Rattle.std.specs.Prelude.{ℕ, zero, suc, ◌+◌, ◌-◌, ◌*◌, ◌/◌, ◌%◌, ◌^◌, List, [], ◌∷◌, ◌++◌, length, replicate, nat_lt, slice_index, slice_index_or}
use Rattle.octets.specs.Bytes.{pick, part, tab}
use Rattle.sha256.specs.Words.{◌⊞◌, ch, maj, Σ₀, Σ₁, σ₀, σ₁}
use Rattle.sha256.specs.Tables.{K, H0}

-- ---- the schedule, 6.2.2 step 1

-- word t of a block, high byte first
unfoldable pub word_at : List ℕ → ℕ → ℕ
word_at b t = slice_index b (4 * t) * 2 ^ 24 + slice_index b (4 * t + 1) * 2 ^ 16 + slice_index b (4 * t + 2) * 2 ^ 8 + slice_index b (4 * t + 3)

-- from the words 2, 7, 15 and 16 places back
unfoldable pub expand : ℕ → ℕ → ℕ → ℕ → ℕ
expand w₂ w₇ w₁₅ w₁₆ = σ₁ w₂ ⊞ w₇ ⊞ σ₀ w₁₅ ⊞ w₁₆

-- word t, from the t words before it
unfoldable pub next_word : List ℕ → List ℕ → ℕ → ℕ
next_word b ws t =
    pick (nat_lt t 16) (word_at b t)
    (expand (slice_index ws (t - 2)) (slice_index ws (t - 7)) (slice_index ws (t - 15)) (slice_index ws (t - 16)))

-- the first n words
unfoldable pub words : List ℕ → ℕ → List ℕ
words b zero = []
words b (suc t) = words b t ++ (next_word b (words b t) t ∷ [])

-- ---- the rounds, 6.2.2 steps 2 and 3

-- the two sums of a round
unfoldable pub T₁ : ℕ → ℕ → ℕ → ℕ → ℕ → ℕ → ℕ
T₁ e f g h k w = h ⊞ Σ₁ e ⊞ ch e f g ⊞ k ⊞ w

-- 6.2.2 step 3, the second sum
unfoldable pub T₂ : ℕ → ℕ → ℕ → ℕ
T₂ a b c = Σ₀ a ⊞ maj a b c

-- what the working words become
abbrev turned : ℕ → ℕ → ℕ → ℕ → ℕ → ℕ → ℕ → ℕ → ℕ → ℕ → List ℕ
turned a b c d e f g h k w = (T₁ e f g h k w ⊞ T₂ a b c) ∷ a ∷ b ∷ c ∷ (d ⊞ T₁ e f g h k w) ∷ e ∷ f ∷ g ∷ []

-- one round, on the eight working words a to h
unfoldable pub round : List ℕ → ℕ → ℕ → List ℕ
round s k w =
    turned (slice_index s 0) (slice_index s 1) (slice_index s 2) (slice_index s 3) (slice_index s 4) (slice_index s 5) (slice_index s 6) (slice_index s 7) k w

-- n rounds
unfoldable pub rounds : List ℕ → ℕ → List ℕ → List ℕ
rounds ws zero s = s
rounds ws (suc t) s = round (rounds ws t s) (slice_index K t) (slice_index ws t)

-- ---- a block, 6.2.2 step 4

-- eight words added to eight
unfoldable pub sums : List ℕ → List ℕ → List ℕ
sums x y =
    (slice_index_or x 0 0 ⊞ slice_index_or y 0 0) ∷ (slice_index_or x 1 0 ⊞ slice_index_or y 1 0) ∷ (slice_index_or x 2 0 ⊞ slice_index_or y 2 0) ∷ (slice_index_or x 3 0 ⊞ slice_index_or y 3 0)
    ∷ (slice_index_or x 4 0 ⊞ slice_index_or y 4 0) ∷ (slice_index_or x 5 0 ⊞ slice_index_or y 5 0) ∷ (slice_index_or x 6 0 ⊞ slice_index_or y 6 0) ∷ (slice_index_or x 7 0 ⊞ slice_index_or y 7 0) ∷ []

-- the chaining words h after the block b
unfoldable pub compress : List ℕ → List ℕ → List ℕ
compress h b = sums h (rounds (words b 64) 64 h)

-- ---- the message

-- byte j of a number of n bytes, high byte first
unfoldable pub byte_of : ℕ → ℕ → ℕ → ℕ
byte_of n x j = x / 2 ^ (8 * (n - 1 - j)) % 2 ^ 8

-- the fewest zeros that fill the last block up
unfoldable pub pad_zeros : ℕ → ℕ
pad_zeros n = (119 - n % 64) % 64

-- 5.1.1: the message, a one bit, zeros, and the length in bits as eight bytes
unfoldable pub pad : List ℕ → List ℕ
pad m = m ++ (128 ∷ (replicate (pad_zeros (length m)) 0 ++ tab 8 (byte_of 8 (8 * length m))))

-- block n of a padded message
unfoldable pub block_at : ℕ → List ℕ → List ℕ
block_at n p = part (64 * n) 64 p

-- the chaining words after n blocks
unfoldable pub chain : ℕ → List ℕ → List ℕ
chain zero p = H0
chain (suc n) p = compress (chain n p) (block_at n p)

-- the chaining words as bytes
unfoldable pub digest : List ℕ → List ℕ
digest h = tab 32 (λ i. byte_of 4 (slice_index h (i / 4)) (i % 4))

-- document 01: "SHA-256 over 0 to 65,536 bytes"; all the blocks taken in
unfoldable pub sha256 : List ℕ → List ℕ
sha256 m = digest (chain (length (pad m) / 64) (pad m))
