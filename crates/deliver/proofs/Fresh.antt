-- The block that is encoded afresh: the rows of the one that was read, and zeros after the message in the last.
-- Assumes nothing.
use mathlib.Core.Path.{◌≡◌, sym, ap, ◌∙◌}
use mathlib.Core.Logic.{⊎_elim}
use mathlib.Core.List.{List, ◌++◌}
use Prim.Native.Nat.{ℕ, zero, suc, ◌+◌, ◌-◌, ◌*◌, ◌<◌, ◌≤◌}
use native.Mathlib.Nat as N
use native.Mathlib.Omega.{arith}
use borrow.Author.Tests.{lt-ltb, le-ltb}
use lib.ListN.{length, get_or, get_or-eq_default}
use lib.Seq.{ext_get_or}
use Rattle.octets.specs.Bytes.{four_at}
use Rattle.octets.proofs.Walk.{lt_or_le}
use Rattle.octets.proofs.Picks.{pick_on, pick_off}
use Rattle.code.specs.Code.{value, row, fragment_byte, fragment_of}
use Rattle.code.specs.Block.{header, rows, block, block_message}
use Rattle.code.proofs.Blocks.{byte_later, not_more, length_fragment, fragment_at, length_row, get_d_row}
use Rattle.code.proofs.Reading.{Readable}
use Rattle.octets.proofs.Parts.{get_d_part}
use Rattle.code_through.proofs.Rows as R
use Rattle.deliver_afresh.specs.Working.{Anew}
use Rattle.deliver.specs.Working.{fresh_byte}

-- the four bytes of a length that was read are those that were read
header_byte : (b l : List ℕ) (p : ℕ) → ((p : ℕ) → get_or b p 0 < 256) → p < 4 → get_or (header (four_at b 0) ++ l) p 0 ≡ get_or b p 0
unfolding header four_at
header_byte b l zero h g = omega (arith, h 0, h 1, h 2, h 3)
header_byte b l (suc zero) h g = omega (arith, h 0, h 1, h 2, h 3)
header_byte b l (suc (suc zero)) h g = omega (arith, h 0, h 1, h 2, h 3)
header_byte b l (suc (suc (suc zero))) h g = omega (arith, h 0, h 1, h 2, h 3)
header_byte b l (suc (suc (suc (suc p)))) h g = absurd (omega arith)

message_byte : (b : List ℕ) (i : ℕ) → i < four_at b 0 → get_or (block_message b) i 0 ≡ get_or b (4 + i) 0
unfolding block_message
message_byte b i h = get_d_part 4 (four_at b 0) i b h

module _ (k longest : ℕ) (b : List ℕ) (pos : 0 < k) (small : (p : ℕ) → get_or b p 0 < 256) (r : Readable k longest b) where
  -- the bytes of the message's block
  fresh_byte_lem : (p : ℕ) → get_or (header (length (block_message b)) ++ block_message b) p 0 ≡ fresh_byte (4 + four_at b 0) b p
  unfolding fresh_byte
  fresh_byte_lem p =
      ap (λ (n : ℕ). get_or (header n ++ block_message b) p 0) r.size
      ∙ ⊎_elim
      (λ l. pick_on _ _ _ _ (lt-ltb p (4 + four_at b 0) l)
      (⊎_elim (λ g. header_byte b (block_message b) p small g)
      (λ g. sym (byte_later (four_at b 0) (block_message b) p g) ∙ message_byte b (p - 4) (omega arith) ∙ ap (λ (i : ℕ). get_or b i 0) (back g)) (lt_or_le p 4)))
      (λ l. pick_off _ _ _ _ (le-ltb p (4 + four_at b 0) l)
      (sym (byte_later (four_at b 0) (block_message b) p (omega arith)) ∙ get_or-eq_default (block_message b) 0 (over l)))
      (lt_or_le p (4 + four_at b 0))
    where
      back : 4 ≤ p → 4 + (p - 4) ≡ p
      back g = omega arith

      over : 4 + four_at b 0 ≤ p → length (block_message b) ≤ p - 4
      over l = omega (arith, r.size)

  kept_in : (p : ℕ) → p < 4 + four_at b 0 → fresh_byte (4 + four_at b 0) b p ≡ get_or b p 0
  unfolding fresh_byte
  kept_in p h = sym (pick_on _ _ _ _ (lt-ltb p (4 + four_at b 0) h) (λ i. get_or b p 0))

  module _ (len : ℕ) (el : rows k (four_at b 0) ≡ len) where
    same_len : rows k (length (block_message b)) ≡ len
    same_len = ap (rows k) r.size ∙ el

    at : (c j : ℕ) → c < len → j < k → get_or (row k (block k (block_message b)) c) j 0 ≡ fresh_byte (4 + four_at b 0) b (c * k + j)
    at c j h g = get_d_row k pos (block_message b) c (omega (arith, same_len)) j g ∙ fresh_byte_lem (c * k + j)

    size : (c : ℕ) → c < len → length (row k (block k (block_message b)) c) ≡ k
    size c h = length_row k pos (block_message b) c (omega (arith, same_len))

    whole : length b ≡ len * k
    whole = r.whole ∙ ap (λ (n : ℕ). n * k) el

    -- a row before the last
    fresh_row : (c : ℕ) → c + 1 < len → row k (block k (block_message b)) c ≡ row k b c
    fresh_row c h =
        ext_get_or 0 (row k (block k (block_message b)) c) (row k b c) (size c (omega arith) ∙ sym (R.length_row k c b (omega (arith, R.row_ends c k len (omega arith), whole))))
        (λ j g.
        let q : j < k = omega (arith, size c (omega arith)) in
        at c j (omega arith) q ∙ kept_in (c * k + j) (omega (arith, early c h, q)) ∙ sym (R.get_d_row k c j b q))
      where
        early : (c : ℕ) → c + 1 < len → c * k + k ≤ 4 + four_at b 0
        early c h = omega (arith, N.mul-le-mul_right k h, N.add-mul c 1 k, N.add-mul (c + 1) 1 k, not_more k pos (block_message b), r.size, ap (λ (n : ℕ). n * k) same_len)

    -- the last row
    fresh_last : (l : List ℕ) → 0 < len → length l ≡ k → ((q : ℕ) → q < k → get_or l q 0 ≡ fresh_byte (4 + four_at b 0) b ((len - 1) * k + q))
        → row k (block k (block_message b)) (len - 1) ≡ l
    fresh_last l some e f =
        ext_get_or 0 (row k (block k (block_message b)) (len - 1)) l (size (len - 1) (omega arith) ∙ sym e)
        (λ j g. let q : j < k = omega (arith, size (len - 1) (omega arith)) in at (len - 1) j (omega arith) q ∙ sym (f j q))

    -- a fragment of the message's block, by the rows of the block that was read
    pub anew : (l : List ℕ) → 0 < len → length l ≡ k → ((q : ℕ) → q < k → get_or l q 0 ≡ fresh_byte (4 + four_at b 0) b ((len - 1) * k + q))
        → (z : ℕ) → Anew k len b l z (fragment_of k (block k (block_message b)) z)
    unfolding fragment_byte
    anew l some e f z = record {
      size = length_fragment k pos (block_message b) z ∙ same_len;
      rows = λ c h. fragment_at k pos (block_message b) z c (omega (arith, same_len)) ∙ ap (λ (r : List ℕ). value r z) (fresh_row c h);
      last = fragment_at k pos (block_message b) z (len - 1) (omega (arith, same_len)) ∙ ap (λ (r : List ℕ). value r z) (fresh_last l some e f);
    }
