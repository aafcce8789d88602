-- Reading a block: a message's own block gives it back, and what is read is at most L bytes long.
-- Assumes nothing.
use mathlib.Core.Path.{◌≡◌, refl, sym, ap, ◌∙◌}
use mathlib.Core.Bool.{true}
use mathlib.Core.List.{List, ◌++◌, append_assoc}
use Prim.Native.Nat.{ℕ, ◌+◌, ◌-◌, ◌*◌, ◌/◌, ◌%◌, ◌<◌, ◌≤◌}
use native.Mathlib.Nat as N
use native.Mathlib.Omega.{arith}
use borrow.Author.Tests.{le-leb, eq-eqb, leb-true, eqb-true}
use lib.Dec.{leb, eqb}
use lib.ListN.{length, replicate, take, drop}
use lib.Seq.{take_at}
use Rattle.octets.specs.Bytes.{four_at, part}
use Rattle.octets.proofs.Laws.{length_part}
use Rattle.octets.proofs.Picks.{and_l, and_r, and_on}
use Rattle.code.specs.Code.{All, Byte}
use Rattle.code.specs.Block.{header, rows, block, readable, block_message}
use Rattle.code.proofs.Blocks.{enough, length_block}
use Rattle.code.proofs.Lists.{all_take, all_drop}

-- the length that stands before a message
pub header_back : (m : ℕ) (l : List ℕ) → m < 4294967296 → four_at (header m ++ l) 0 ≡ m
unfolding header four_at
header_back m l h = omega arith

module _ (k : ℕ) (pos : 0 < k) (msg : List ℕ) (short : length msg ≤ 16384) where
  pub block_length_field : four_at (block k msg) 0 ≡ length msg
  unfolding block
  block_length_field =
      ap (λ (l : List ℕ). four_at l 0) (append_assoc (header (length msg)) msg (replicate (rows k (length msg) * k - (4 + length msg)) 0))
      ∙ header_back (length msg) (msg ++ replicate (rows k (length msg) * k - (4 + length msg)) 0) (omega arith)

  -- a message's block is readable, and the message is read
  pub block_readable : (longest : ℕ) → length msg ≤ longest → readable k longest (block k msg) ≡ true
  unfolding readable
  block_readable longest fits =
      let size = length_block k pos msg in
      let four_more : 4 ≤ length (block k msg) = omega (arith, enough k pos msg) in
      let whole : length (block k msg) % k ≡ 0 = ap (λ (n : ℕ). n % k) size ∙ N.mul-mod_left (rows k (length msg)) k in
      let rows_given : rows k (four_at (block k msg) 0) ≡ length (block k msg) / k =
      ap (rows k) block_length_field ∙ sym (ap (λ (n : ℕ). n / k) size ∙ N.mul-div_cancel (rows k (length msg)) pos) in
      let fits' : four_at (block k msg) 0 ≤ longest = N.le_trans (N.le_of_eq block_length_field) fits in
      and_on _ _ (le-leb _ _ four_more) (and_on _ _ (eq-eqb _ _ whole) (and_on _ _ (le-leb _ _ fits') (eq-eqb _ _ rows_given)))

  pub block_message_lem : block_message (block k msg) ≡ msg
  unfolding block_message part block header
  block_message_lem =
      ap (λ (n : ℕ). take n (drop 4 (block k msg))) block_length_field
      ∙ take_at msg (replicate (rows k (length msg) * k - (4 + length msg)) 0) (length msg) refl

-- what a readable block holds
pub record Readable (k longest : ℕ) (b : List ℕ) : Type 0 where
  pub fits : four_at b 0 ≤ longest
  pub whole : length b ≡ rows k (four_at b 0) * k
  pub inside : 4 + four_at b 0 ≤ length b
  pub size : length (block_message b) ≡ four_at b 0

pub readable_facts : (k longest : ℕ) (b : List ℕ) → 0 < k → readable k longest b ≡ true → Readable k longest b
unfolding readable block_message rows
readable_facts k longest b pos h =
    let h1 = and_r (leb 4 (length b)) _ h in
    let h2 = and_r (eqb (length b % k) 0) _ h1 in
    let h3 = and_r (leb (four_at b 0) longest) _ h2 in
    let m = four_at b 0 in
    let none : length b % k ≡ 0 = eqb-true _ _ (and_l _ _ h1) in
    let given : rows k m ≡ length b / k = eqb-true _ _ h3 in
    let back : length b ≡ rows k m * k = sym (ap (λ (n : ℕ). n * k) given ∙ whole_rows (length b) none) in
    let x = m + 4 + (k - 1) in
    let room : 4 + m ≤ length b = omega (arith, back, N.div-add-mod' x k, N.mod-lt x pos) in
    record {
      fits = leb-true _ _ (and_l _ _ h2);
      whole = back;
      inside = room;
      size = length_part 4 m b room;
    }
  where
    whole_rows : (n : ℕ) → n % k ≡ 0 → n / k * k ≡ n
    whole_rows n e = omega (arith, N.div-add-mod' n k)

-- a readable block has its length's four bytes
pub readable_four : (k longest : ℕ) (b : List ℕ) → readable k longest b ≡ true → 3 < length b
unfolding readable
readable_four k longest b h = leb-true _ _ (and_l (leb 4 (length b)) _ h)

-- what is read is bytes where the block is
pub message_bytes : (b : List ℕ) → All Byte b → All Byte (block_message b)
unfolding block_message part
message_bytes b h = all_take Byte (four_at b 0) (drop 4 b) (all_drop Byte 4 b h)
