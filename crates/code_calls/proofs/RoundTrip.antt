-- Document 01: "any n-2t fragments give the block back". For every table, every message of at most L bytes and every marked set of at least k
-- of its n fragments: rebuilding gives its block, and reading gives the message.
-- Assumes nothing.
use mathlib.Core.Path.{◌≡◌, refl, sym, ap, ◌∙◌, subst}
use mathlib.Core.Bool.{Bool, true, false, not, ◌&&◌}
use mathlib.Core.List.{List}
use Prim.Native.Nat.{ℕ, zero, suc, ◌+◌, ◌*◌, ◌/◌, ◌^◌, ◌<◌, ◌≤◌}
use native.Mathlib.Nat as N
use native.Mathlib.Omega.{arith}
use borrow.Author.Tests.{le-ltb, eq-eqb, le-leb}
use lib.Count.{ones}
use lib.Dec.{leb}
use lib.ListN.{length}
use Rattle.octets.specs.Bytes.{pick, part, put, place_each}
use Rattle.octets.specs.Sets.{has}
use Rattle.refusal.specs.Answers.{sized}
use Rattle.refusal.specs.declared.Sized.{Sized}
use Rattle.octets.proofs.Members.{some_none}
use Rattle.octets.proofs.Places.{length_places}
use Rattle.octets.proofs.Puts.{part_put}
use Rattle.table.specs.Table.{limits, k_of, s_max}
use Rattle.table.specs.declared.Table.{Table}
use Rattle.table.proofs.Within.{within, k_pos}
use Rattle.code.specs.Code.{All, Byte}
use Rattle.code.specs.Block.{rows, block}
use Rattle.code.proofs.Blocks.{enough, length_block}
use Rattle.code.proofs.Reading.{block_readable, block_message_lem}
use Rattle.code_encode.specs.Message.{fragment_for}
use Rattle.code_encode.proofs.Sizes.{rows_most}
use Rattle.code_through.specs.Rebuild.{Agrees}
use Rattle.code_through.proofs.Encoded.{encoded_agrees}
use Rattle.code_calls.specs.Encoding.{Encoded, encoded, encode_by, encode_of}
use Rattle.code_calls.specs.Rebuilding.{length_at, first_of, common_length, some_outside, too_short, by_lengths, rebuild_refusal, Rebuilds}
use Rattle.code_calls.specs.Reading.{ReadOut, read_refusal, read_out, read_by, read_of}
use Rattle.code_calls.proofs.Firsts.{first_holds, first_marked}
use Rattle.code_calls.proofs.Taken.{encode_taken, encode_accepted}

not_outside : (c x y : Bool) → (c ≡ true → (x ≡ true) × (y ≡ true)) → c && not (x && y) ≡ false
not_outside false x y h = refl
not_outside true x y h = let (p, q) = h refl in rw (p, q)

-- what rebuilding takes: k boards or more are marked, each with a fragment of len bytes, and the buffers are long enough
pub record Marked (b : Table) (marked len : ℕ) (lengths area out : List ℕ) : Type 0 where
  pub limited : limits b ≡ true
  pub below : marked / 2 ^ b.n ≡ 0
  pub some_k : k_of b ≤ ones marked
  pub alike : (i : ℕ) → i < b.n → has marked i ≡ true → length_at lengths i ≡ len
  pub lengths_room : 2 * b.n ≤ length lengths
  pub area_room : b.n * s_max b ≤ length area
  pub out_room : k_of b * s_max b ≤ length out

module _ (b : Table) (marked len : ℕ) (lengths area out : List ℕ) (m : Marked b marked len lengths area out) (low : 1 ≤ len) (high : len ≤ s_max b) where
  common : common_length b.n marked lengths ≡ len
  unfolding common_length
  common =
      let f = first_marked b.n marked m.below (N.lt_of_lt_of_le (k_pos b (within b m.limited)) m.some_k) in
      m.alike (first_of (has marked) 0 b.n) f (first_holds (has marked) 0 b.n (N.lt_of_lt_of_le f (N.le_of_eq (sym (N.zero-add b.n)))))

  inside : (lo hi : ℕ) → lo ≤ len → len ≤ hi → some_outside b.n lo hi marked lengths ≡ false
  unfolding some_outside
  inside lo hi l h =
      some_none (λ i. has marked i && not (leb lo (length_at lengths i) && leb (length_at lengths i) hi)) 0 b.n
      (λ i g. not_outside (has marked i) (leb lo (length_at lengths i)) (leb (length_at lengths i) hi)
      (λ q. let e = m.alike i (omega arith) q in (le-leb lo (length_at lengths i) (omega (arith, e)), le-leb (length_at lengths i) hi (omega (arith, e)))))

  taken : rebuild_refusal b marked lengths area out ≡ 0
  unfolding rebuild_refusal too_short by_lengths pick
  taken =
      rw (
        m.limited,
        le-ltb (length lengths) (2 * b.n) m.lengths_room,
        le-ltb (length area) (b.n * s_max b) m.area_room,
        le-ltb (length out) (k_of b * s_max b) m.out_room,
        eq-eqb (marked / 2 ^ b.n) 0 m.below,
        inside 1 (s_max b) low high,
        le-ltb (ones marked) (k_of b) m.some_k,
        inside (common_length b.n marked lengths) (common_length b.n marked lengths) (N.le_of_eq common) (N.le_of_eq (sym common)),
      )

  -- rebuilding gives the block whose fragments are all those marked
  pub rebuild_gives : (d : List ℕ) → Agrees b.n (k_of b) (s_max b) len marked area d
      → (r : Sized) (out' : List ℕ) → Rebuilds b marked lengths area out r out' → (r ≡ sized 0 (length d)) × (out' ≡ put 0 d out)
  rebuild_gives d a r out' w = w.found taken d (subst (λ (l : ℕ). Agrees b.n (k_of b) (s_max b) l marked area d) (sym common) a)

-- from what encoding leaves, the message's block
pub rebuild_back : (b : Table) (message old lengths out : List ℕ) (marked : ℕ) → length message ≤ b.longest → All Byte message
    → Marked b marked (rows (k_of b) (length message)) lengths (place_each b.n (s_max b) (fragment_for b message) old) out
    → (r : Sized) (out' : List ℕ) → Rebuilds b marked lengths (place_each b.n (s_max b) (fragment_for b message) old) out r out'
    → (r ≡ sized 0 (length (block (k_of b) message))) × (out' ≡ put 0 (block (k_of b) message) out)
unfolding fragment_for
rebuild_back b message old lengths out marked fits bytes m =
    let pos = k_pos b (within b m.limited) in
    let most = rows_most b (length message) pos fits in
    rebuild_gives b marked (rows (k_of b) (length message)) lengths (place_each b.n (s_max b) (fragment_for b message) old) out m (some_rows pos (rows (k_of b) (length message)) refl) most
    (block (k_of b) message) (encoded_agrees b.n (k_of b) (s_max b) marked message old pos bytes most
    (N.le_trans m.area_room (N.le_of_eq (length_places (s_max b) (fragment_for b message) old b.n))))
  where
    some_rows : 0 < k_of b → (r : ℕ) → rows (k_of b) (length message) ≡ r → 1 ≤ rows (k_of b) (length message)
    some_rows pos zero e = absurd (omega (arith, enough (k_of b) pos message, ap (λ (r : ℕ). r * k_of b) e ∙ N.zero-mul (k_of b)))
    some_rows pos (suc r) e = omega arith

-- from the message's block, the message
pub read_message_back : (b : Table) (message room : List ℕ) → limits b ≡ true → length message ≤ b.longest → b.longest ≤ length room
    → read_of b (block (k_of b) message) room ≡ read_out (sized 0 (length message)) (put 0 message room)
unfolding read_of read_by read_refusal pick
read_message_back b message room limited fits long =
    let w = within b limited in
    let p = k_pos b w in
    let short = N.le_trans fits w.short in
    rw (limited, le-ltb (length room) b.longest long, block_readable (k_of b) p message short b.longest fits, block_message_lem (k_of b) p message short)

-- the three calls one after the other: an encoding that is accepted; k or more of its fragments rebuilt, their lengths those that it answers; the
-- bytes that rebuilding answers read. Rebuilding gives the message's block, and reading the message
pub round_trip : (b : Table) (message area root paths : List ℕ) → All Byte message
    → (x : Sized) (area' root' paths' : List ℕ) → encoded x area' root' paths' ≡ encode_of b message area root paths → x.number ≡ 0
    → (marked : ℕ) (lengths out : List ℕ) → Marked b marked x.length lengths area' out
    → (r : Sized) (out' : List ℕ) → Rebuilds b marked lengths area' out r out'
    → (room : List ℕ) → b.longest ≤ length room
    → (y : Sized) (room' : List ℕ) → read_out y room' ≡ read_of b (part 0 r.length out') room
    → (r ≡ sized 0 (length (block (k_of b) message))) × (out' ≡ put 0 (block (k_of b) message) out) × (y ≡ sized 0 (length message)) × (room' ≡ put 0 message room)
unfolding encode_of encode_by
round_trip b message area root paths bytes x area' root' paths' e accepted marked lengths out m r out' w room long y room' f =
    let none = encode_accepted b message area root paths (ap (λ (z : Encoded). z.answer.number) (sym e) ∙ accepted) in
    let made : encoded x area' root' paths' ≡ encode_by 0 b message area root paths = e ∙ ap (λ (q : ℕ). encode_by q b message area root paths) none in
    let lens : x.length ≡ rows (k_of b) (length message) = ap (λ (z : Encoded). z.answer.length) made in
    let fits = (encode_taken b message area root paths none).fits in
    let pos = k_pos b (within b m.limited) in
    let put_in : area' ≡ place_each b.n (s_max b) (fragment_for b message) area = ap (λ (z : Encoded). z.area) made in
    let (p, q) = rebuild_back b message area lengths out marked fits bytes
    (subst (λ (l : ℕ). Marked b marked l lengths (place_each b.n (s_max b) (fragment_for b message) area) out) lens
    (subst (λ (a : List ℕ). Marked b marked x.length lengths a out) put_in m)) r out' (subst (λ (a : List ℕ). Rebuilds b marked lengths a out r out') put_in w) in
    let short : 0 + length (block (k_of b) message) ≤ length out = omega (
      arith,
      length_block (k_of b) pos message,
      N.mul-le-mul_left (k_of b) (rows_most b (length message) pos fits),
      N.mul_comm (rows (k_of b) (length message)) (k_of b),
      m.out_room,
    ) in
    let front : part 0 r.length out' ≡ block (k_of b) message = rw (p, q) (part_put 0 (length (block (k_of b) message)) (block (k_of b) message) out refl short) in
    let z : read_out y room' ≡ read_out (sized 0 (length message)) (put 0 message room) =
    f ∙ ap (λ (d : List ℕ). read_of b d room) front ∙ read_message_back b message room m.limited fits long in
    (p, q, ap (λ (v : ReadOut). v.answer) z, ap (λ (v : ReadOut). v.message) z)
