-- Document 01, "Checked by hand": the examples marked P, about the definitions that the calls' contracts cite, in one table.
-- Assumes nothing.
use mathlib.Core.Path.{◌≡◌, refl, sym, ap, ◌∙◌}
use mathlib.Core.Bool.{true, not}
use mathlib.Core.List.{List, [], ◌∷◌}
use Prim.Native.Nat.{ℕ, zero, suc, ◌*◌, ◌<◌, ◌≤◌}
use native.Mathlib.Omega.{arith}
use borrow.Author.Tests.{le-ltb}
use lib.ListN.{length}
use Rattle.refusal.specs.Answers.{sized}
use Rattle.octets.specs.Bytes.{pick, part, put, tab, four_at}
use Rattle.octets.specs.Sets.{has}
use Rattle.refusal.specs.declared.Sized.{Sized}
use Rattle.octets.proofs.Picks.{never}
use Rattle.record.specs.Form.{out_bytes, is_kind, nodes_most, path_ok, fragment_ok, form_of, answered}
use Rattle.record.proofs.Round.{vote_length}
use Rattle.table.specs.Table.{limits, k_of, s_max, most_of, some_of}
use Rattle.table.specs.declared.Table.{Table}
use Rattle.tree.specs.Tree.{doubled, half, tree, tree_of, path, path_of}
use Rattle.field.specs.Field.{add, double, times, mul}
use Rattle.code.specs.Code.{value, row, fragment_byte, fragment_of}
use Rattle.code.specs.Block.{header, rows, block, readable, block_message}
use Rattle.code_encode.specs.Message.{fragment_for}
use Rattle.code_through.specs.Rebuild.{Agrees}
use Rattle.code_calls.specs.Encoding.{encode_refusal, encoded, encode_by, encode_of}
use Rattle.code_calls.specs.Rebuilding.{rebuild_refusal, Rebuilds}
use Rattle.code_calls.specs.Reading.{read_refusal, read_out, read_by, read_of}
use Rattle.code_calls.proofs.Taken.{EncodeTaken, encode_takes, encode_length, encode_fragment}
use Rattle.code_calls.proofs.RoundTrip.{Marked, rebuild_gives}
use Rattle.board.specs.Started.{begun, start_of}
use Rattle.board_send.specs.Sent.{send_refusal, send_out, send_by, send_of}
use Rattle.tumbeliko.specs.Tables.{table_from}
use Rattle.tumbeliko.specs.Records.{write_by, write_of}

-- "n 4, t 1", with any sender and any L
abbrev pub four_boards : ℕ → ℕ → Table
four_boards sender longest = table_from 4 1 sender longest

abbrev pub block41 : List ℕ
block41 = 0 ∷ 0 ∷ 0 ∷ 1 ∷ 0x41 ∷ 0 ∷ []

-- with n 4 and t 1 encoding m answers the length len and leaves the four fragments f 1, f 2, f 3, f 4: for every sender, every L from the length
-- of m on, and all buffers long enough
abbrev pub Encodes : List ℕ → ℕ → (ℕ → List ℕ) → Type 0
Encodes m len f =
    (sender longest : ℕ) (area root paths : List ℕ) → EncodeTaken (four_boards sender longest) m area root paths
    → ((encode_of (four_boards sender longest) m area root paths).answer ≡ sized 0 len)
    × ((i : ℕ) → i < 4 → part (i * s_max (four_boards sender longest)) len (encode_of (four_boards sender longest) m area root paths).area ≡ f (suc i))

pub record ByHand : Type 0 where
  -- 2·128 = 29; 2·142 = 1; 3·3 = 5; 0·200 = 0
  pub products : (mul 2 128 ≡ 29) × (mul 2 142 ≡ 1) × (mul 3 3 ≡ 5) × (mul 0 200 ≡ 0)
  -- n 4, t 1, message 41: fragments 00 01 41, 00 02 41, 00 03 41, 00 04 41
  pub fragments41 : Encodes (0x41 ∷ []) 3 (λ i. 0 ∷ i ∷ 0x41 ∷ [])
  -- numbers 2 and 4 alone (bits 1 and 3) give the block back, whatever else stands in the area
  pub two_and_four : (sender longest : ℕ) (lengths area out : List ℕ) → 1 ≤ longest → Marked (four_boards sender longest) 10 3 lengths area out
      → part (1 * s_max (four_boards sender longest)) 3 area ≡ 0 ∷ 2 ∷ 0x41 ∷ [] → part (3 * s_max (four_boards sender longest)) 3 area ≡ 0 ∷ 4 ∷ 0x41 ∷ []
      → (r : Sized) (out' : List ℕ) → Rebuilds (four_boards sender longest) 10 lengths area out r out' → (r ≡ sized 0 6) × (out' ≡ put 0 block41 out)
  -- same table, empty message: four fragments 00 00
  pub fragments_none : Encodes [] 2 (λ i. 0 ∷ 0 ∷ [])
  -- n-t, t+1, k for (1,0): 1, 1, 1; (4,1): 3, 2, 2; (64,21): 43, 22, 22
  pub quorums : (sender longest : ℕ) → (most_of (table_from 1 0 sender longest) ≡ 1) × (some_of (table_from 1 0 sender longest) ≡ 1) × (k_of (table_from 1 0 sender longest) ≡ 1)
      × (most_of (table_from 4 1 sender longest) ≡ 3) × (some_of (table_from 4 1 sender longest) ≡ 2) × (k_of (table_from 4 1 sender longest) ≡ 2)
      × (most_of (table_from 64 21 sender longest) ≡ 43) × (some_of (table_from 64 21 sender longest) ≡ 22) × (k_of (table_from 64 21 sender longest) ≡ 22)
  -- (3,1): refused 1, by every call that takes a table, whatever else it is given
  pub refused : (sender longest own to marked : ℕ) (m s u v : List ℕ)
      → (encode_of (table_from 3 1 sender longest) m s u v ≡ encoded (sized 1 0) s u v)
      × ((r : Sized) (u' : List ℕ) → Rebuilds (table_from 3 1 sender longest) marked m s u r u' → (r ≡ sized 1 0) × (u' ≡ u))
      × (read_of (table_from 3 1 sender longest) m s ≡ read_out (sized 1 0) s)
      × (start_of (table_from 3 1 sender longest) own s ≡ begun 1 s)
      × (send_of (table_from 3 1 sender longest) m to s ≡ send_out (sized 1 0) s)
  -- n 5: path lengths 3, 3, 3, 3, 1
  pub path_lengths : (fragments : ℕ → List ℕ) → (length (path_of 5 fragments 0) ≡ 3) × (length (path_of 5 fragments 1) ≡ 3) × (length (path_of 5 fragments 2) ≡ 3)
      × (length (path_of 5 fragments 3) ≡ 3) × (length (path_of 5 fragments 4) ≡ 1)
  -- a vote record has 39 bytes
  pub vote_bytes : (root out : List ℕ) → length root ≡ 32 → out_bytes ≤ length out → (write_of 3 root [] [] out).answer ≡ answered 0 0 39
  -- k 2, L 16, block 00 00 00 03 41 00: refused 12
  pub unreadable : (b : Table) → limits b ≡ true → k_of b ≡ 2 → b.longest ≡ 16 → (room : List ℕ) → 16 ≤ length room
      → read_of b (0 ∷ 0 ∷ 0 ∷ 3 ∷ 0x41 ∷ 0 ∷ []) room ≡ read_out (sized 12 0) room
  -- block 00 00 00 01 41 07 reads as 41
  pub reads : (b : Table) → limits b ≡ true → k_of b ≡ 2 → b.longest ≡ 16 → (room : List ℕ) → 16 ≤ length room
      → read_of b (0 ∷ 0 ∷ 0 ∷ 1 ∷ 0x41 ∷ 7 ∷ []) room ≡ read_out (sized 0 1) (put 0 (0x41 ∷ []) room)

-- numbers below 4
four_cases : (P : ℕ → Type 0) → P 0 → P 1 → P 2 → P 3 → (i : ℕ) → i < 4 → P i
four_cases P a b c d zero h = a
four_cases P a b c d (suc zero) h = b
four_cases P a b c d (suc (suc zero)) h = c
four_cases P a b c d (suc (suc (suc zero))) h = d
four_cases P a b c d (suc (suc (suc (suc i)))) h = absurd (omega arith)

-- an encoding, from the four fragments of the definition
encodes : (m : List ℕ) (len : ℕ) (f : ℕ → List ℕ) → rows 2 (length m) ≡ len → ((i : ℕ) → i < 4 → fragment_of 2 (block 2 m) (suc i) ≡ f (suc i)) → Encodes m len f
unfolding fragment_for
encodes m len f e each sender longest area root paths t =
    let none = encode_takes (four_boards sender longest) m area root paths t in (
      encode_length (four_boards sender longest) m area root paths none ∙ ap (sized 0) e,
      λ i h. rw (← e) (encode_fragment (four_boards sender longest) m area root paths none i h ∙ each i h),
    )

agrees41 : (s : ℕ) (area : List ℕ) → part (1 * s) 3 area ≡ 0 ∷ 2 ∷ 0x41 ∷ [] → part (3 * s) 3 area ≡ 0 ∷ 4 ∷ 0x41 ∷ [] → Agrees 4 2 s 3 10 area block41
unfolding has fragment_of fragment_byte row value tab part mul times double add
agrees41 s area e f = record {
  size = refl;
  bytes = (omega arith, (omega arith, (omega arith, (omega arith, (omega arith, (omega arith, tt))))));
  same = four_cases (λ (i : ℕ). has 10 i ≡ true → fragment_of 2 block41 (suc i) ≡ part (i * s) 3 area) never (λ h. sym e) never (λ h. sym f);
}

-- with k 2, L 16 and room for a message only an unreadable block is refused
read_by_lem : (b : Table) → limits b ≡ true → k_of b ≡ 2 → b.longest ≡ 16 → (given room : List ℕ) → 16 ≤ length room
    → read_of b given room ≡ read_by (pick (not (readable 2 16 given)) 12 0) given room
unfolding read_of read_refusal pick
read_by_lem b h k l given room long = rw (h, l, le-ltb (length room) 16 long, k)

pub by_hand : ByHand
unfolding mul times double add fragment_of fragment_byte row value block header rows tab s_max encode_of encode_by encode_refusal rebuild_refusal read_of read_by read_refusal start_of
    send_of send_by send_refusal pick limits path_of path tree_of tree half doubled write_of write_by form_of is_kind path_ok nodes_most fragment_ok readable block_message four_at part
by_hand = record {
  products = (refl, refl, refl, refl);
  fragments41 = encodes (0x41 ∷ []) 3 (λ i. 0 ∷ i ∷ 0x41 ∷ []) refl (four_cases (λ (i : ℕ). fragment_of 2 (block 2 (0x41 ∷ [])) (suc i) ≡ 0 ∷ suc i ∷ 0x41 ∷ []) refl refl refl refl);
  two_and_four = λ sender longest lengths area out some m e f. rebuild_gives (four_boards sender longest) 10 3 lengths area out m (omega arith) (omega arith) block41 (agrees41 (s_max (four_boards sender longest)) area e f);
  fragments_none = encodes [] 2 (λ i. 0 ∷ 0 ∷ []) refl (four_cases (λ (i : ℕ). fragment_of 2 (block 2 []) (suc i) ≡ 0 ∷ 0 ∷ []) refl refl refl refl);
  quorums = λ sender longest. (refl, refl, refl, refl, refl, refl, refl, refl, refl);
  refused = λ sender longest own to marked m s u v. (refl, λ r u' w. w.refused 0 refl, refl, refl, refl);
  path_lengths = λ fragments. (refl, refl, refl, refl, refl);
  vote_bytes = λ root out e l. rw (le-ltb _ _ l, e) (ap (answered 0 0) (vote_length root e));
  unreadable = λ b h k l room long. read_by_lem b h k l (0 ∷ 0 ∷ 0 ∷ 3 ∷ 0x41 ∷ 0 ∷ []) room long;
  reads = λ b h k l room long. read_by_lem b h k l (0 ∷ 0 ∷ 0 ∷ 1 ∷ 0x41 ∷ 7 ∷ []) room long;
}
