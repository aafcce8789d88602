-- A call that is not refused: what each of its refusals, not applying, says; and how the code's steps make up the promise.
-- Assumes nothing.
use mathlib.Core.Path.{◌≡◌, refl, sym, ap, ◌∙◌, subst}
use mathlib.Core.Bool.{Bool, true, false, not, ◌&&◌, ◌||◌}
use mathlib.Core.List.{List}
use Prim.Native.Nat.{ℕ, zero, suc, ◌+◌, ◌*◌, ◌/◌, ◌^◌, ◌<◌, ◌≤◌}
use native.Mathlib.Nat as N
use native.Mathlib.Nat.{mul-le-mul}
use native.Mathlib.Omega.{arith}
use borrow.Author.Tests.{le-ltb, leb-true, ltb-false, eqb-true}
use lib.Count.{ones}
use lib.Dec.{eqb, leb, ltb}
use lib.ListN.{length}
use Rattle.octets.specs.Bytes.{pick, part, put, place_each, four_at}
use Rattle.octets.specs.Sets.{has}
use Rattle.octets.proofs.Picks.{none_applies, not_none, or_none_l, or_none_r}
use Rattle.table.specs.Table.{limits, k_of, s_max}
use Rattle.table.specs.declared.Table.{Table}
use Rattle.table.proofs.Within.{within, k_pos, k_few, s_max_le, room_le}
use Rattle.tree.specs.Tree.{root_of, path_of, flat}
use Rattle.tree.specs.Area.{leaf_at, Rooms}
use Rattle.tree.proofs.Leaves.{root_of_alike, path_of_alike}
use Rattle.octets.proofs.Places.{place_part}
use Rattle.octets.proofs.Parts.{part_all}
use Rattle.code.specs.Code.{fragment_of}
use Rattle.code.specs.Block.{rows, block, readable, block_message}
use Rattle.code.proofs.Blocks.{length_fragment}
use Rattle.code_encode.specs.Message.{fragment_for}
use Rattle.code_encode.proofs.Sizes.{rows_most}
use Rattle.code.proofs.Reading.{readable_facts, readable_four}
use Rattle.code_through.specs.Rebuild.{Agrees, Rebuilt}
use Rattle.refusal.specs.Answers.{sized}
use Rattle.refusal.specs.declared.Sized.{Sized}
use Rattle.refusal.specs.declared.Refusal.{Refusal}
use Rattle.refusal.specs.Numbers.{refused}
use Rattle.std.specs.Prelude.{Result, Ok, Err, IfOk}
use Rattle.code_calls.specs.Encoding.{encode_refusal, encoded, encode_by, encode_of}
use Rattle.code_calls.specs.Reading.{read_refusal, read_out, read_by, read_of}
use Rattle.code_calls.specs.Rebuilding.{length_at, first_of, common_length, some_outside, too_short, by_lengths, rebuild_refusal, Rebuilds}
use Rattle.code_calls.proofs.Firsts.{first_holds, some_at, first_marked}

-- ---- reading a block

pub record ReadTaken (b : Table) (given message : List ℕ) : Type 0 where
  pub limited : limits b ≡ true
  pub room : b.longest ≤ length message
  pub reads : readable (k_of b) b.longest given ≡ true

pub read_taken : (b : Table) (given message : List ℕ) → read_refusal b given message ≡ 0 → ReadTaken b given message
unfolding read_refusal
read_taken b given message e =
    let (e1, f1) = none_applies (not (limits b)) 0 _ e in
    let (e2, f2) = none_applies (ltb (length message) b.longest) 1 _ f1 in
    let (e3, f3) = none_applies (not (readable (k_of b) b.longest given)) 11 _ f2 in
    record { limited = not_none (limits b) e1; room = ltb-false _ _ e2; reads = not_none (readable (k_of b) b.longest given) e3 }

-- a table outside its limits
pub read_outside : (b : Table) (given message : List ℕ) → limits b ≡ false → 1 ≡ read_refusal b given message
unfolding read_refusal pick
read_outside b given message h = rw h

module _ (b : Table) (given message : List ℕ) where
  -- what the code does once it knows the refusal
  pub read_refused : (q : ℕ) → (q ≡ 0 → ⊥) → q ≡ read_refusal b given message → read_out (sized q 0) message ≡ read_of b given message
  unfolding read_of read_by
  read_refused zero some e = absurd (some refl)
  read_refused (suc q) some e = ap (λ (q : ℕ). read_by q given message) e

  module _ (none : read_refusal b given message ≡ 0) where
    pub read_four : 3 < length given
    read_four = readable_four (k_of b) b.longest given (read_taken b given message none).reads

    -- the message stands in the block, and the buffer has room for it
    pub read_inside : (4 + four_at given 0 ≤ length given) × (four_at given 0 ≤ length message)
    unfolding block_message
    read_inside =
        let t = read_taken b given message none in
        let w = within b t.limited in
        let f = readable_facts (k_of b) b.longest given (k_pos b w) t.reads in
        (f.inside, N.le_trans f.fits t.room)

    pub read_done : (m : ℕ) (out : List ℕ) → m ≡ four_at given 0 → out ≡ put 0 (part 4 m given) message → read_out (sized 0 m) out ≡ read_of b given message
    unfolding read_of read_by block_message
    read_done m out e f =
        let t = read_taken b given message none in
        let s = (readable_facts (k_of b) b.longest given (k_pos b (within b t.limited)) t.reads).size in
        rw (none, f, e) (ap (λ (n : ℕ). read_out (sized 0 n) (put 0 (part 4 (four_at given 0) given) message)) (sym s))

-- ---- encoding

pub record EncodeTaken (b : Table) (message area root paths : List ℕ) : Type 0 where
  pub limited : limits b ≡ true
  pub area_room : b.n * s_max b ≤ length area
  pub root_room : 32 ≤ length root
  pub paths_room : b.n * 192 ≤ length paths
  pub fits : length message ≤ b.longest

module _ (b : Table) (message area root paths : List ℕ) where
  pub encode_taken : encode_refusal b message area root paths ≡ 0 → EncodeTaken b message area root paths
  unfolding encode_refusal
  encode_taken e =
      let (e1, f1) = none_applies (not (limits b)) 0 _ e in
      let (e2, f2) = none_applies (ltb (length area) (b.n * s_max b) || (ltb (length root) 32 || ltb (length paths) (b.n * 192))) 1 _ f1 in
      let (e3, f3) = none_applies (ltb b.longest (length message)) 12 _ f2 in
      let r = or_none_r (ltb (length area) (b.n * s_max b)) _ e2 in
      record {
        limited = not_none (limits b) e1;
        area_room = ltb-false _ _ (or_none_l (ltb (length area) (b.n * s_max b)) _ e2);
        root_room = ltb-false _ _ (or_none_l (ltb (length root) 32) _ r);
        paths_room = ltb-false _ _ (or_none_r (ltb (length root) 32) _ r);
        fits = ltb-false _ _ e3;
      }

  -- the way back: with these no refusal applies
  pub encode_takes : EncodeTaken b message area root paths → encode_refusal b message area root paths ≡ 0
  unfolding encode_refusal pick
  encode_takes t =
      rw (t.limited, le-ltb _ _ t.area_room, le-ltb _ _ t.root_room, le-ltb _ _ t.paths_room, le-ltb _ _ t.fits)

  -- a table outside its limits
  pub encode_outside : limits b ≡ false → 1 ≡ encode_refusal b message area root paths
  unfolding encode_refusal pick
  encode_outside h = rw h

  -- an answer 0 is no refusal
  pub encode_accepted : (encode_of b message area root paths).answer.number ≡ 0 → encode_refusal b message area root paths ≡ 0
  unfolding encode_of encode_by
  encode_accepted = by (encode_refusal b message area root paths)
    where
      by : (q : ℕ) → (encode_by q b message area root paths).answer.number ≡ 0 → q ≡ 0
      by zero e = refl
      by (suc q) e = e

  pub encode_refused : (q : ℕ) → (q ≡ 0 → ⊥) → q ≡ encode_refusal b message area root paths
      → encoded (sized q 0) area root paths ≡ encode_of b message area root paths
  unfolding encode_of encode_by
  encode_refused zero some e = absurd (some refl)
  encode_refused (suc q) some e = ap (λ (q : ℕ). encode_by q b message area root paths) e

  module _ (none : encode_refusal b message area root paths ≡ 0) where
    whole : List ℕ
    whole = place_each b.n (s_max b) (fragment_for b message) area

    -- the fragments stand in the area, once they are put in
    stands : (i : ℕ) → i < b.n → leaf_at (s_max b) (rows (k_of b) (length message)) whole i ≡ fragment_for b message i
    unfolding whole leaf_at fragment_for
    stands i h =
        let t = encode_taken none in
        let pos = k_pos b (within b t.limited) in
        let len = length_fragment (k_of b) pos message in
        let f = fragment_for b message in
        ap (λ (p : ℕ). part p (rows (k_of b) (length message)) (place_each b.n (s_max b) f area)) (sym (N.add-zero (i * s_max b)))
        ∙ place_part (s_max b) f area (λ j. N.le_trans (N.le_of_eq (len (suc j))) (rows_most b (length message) pos t.fits)) b.n i 0
        (rows (k_of b) (length message)) h (N.le_of_eq (N.zero-add (rows (k_of b) (length message)) ∙ sym (len (suc i)))) t.area_room
        ∙ part_all (rows (k_of b) (length message)) (f i) (len (suc i))

    -- what the call answers, and where a fragment stands after it
    pub encode_length : (encode_of b message area root paths).answer ≡ sized 0 (rows (k_of b) (length message))
    unfolding encode_of encode_by
    encode_length = rw none

    pub encode_fragment : (i : ℕ) → i < b.n → part (i * s_max b) (rows (k_of b) (length message)) (encode_of b message area root paths).area ≡ fragment_for b message i
    unfolding encode_of encode_by whole leaf_at
    encode_fragment i h = rw none (stands i h)

    pub encode_done : (len : ℕ) (area1 root1 paths1 : List ℕ) → len ≡ rows (k_of b) (length message)
        → area1 ≡ place_each b.n (s_max b) (λ i. fragment_of (k_of b) (block (k_of b) message) (suc i)) area
        → root1 ≡ put 0 (root_of b.n (leaf_at (s_max b) len area1)) root
        → paths1 ≡ place_each b.n 192 (λ i. flat (path_of b.n (leaf_at (s_max b) len area1) i)) paths
        → encoded (sized 0 len) area1 root1 paths1 ≡ encode_of b message area root paths
    unfolding encode_of encode_by fragment_for whole
    encode_done len area1 root1 paths1 e ea er ep =
        let w = within b (encode_taken none).limited in
        let roots = root_of_alike b.n w.one w.few (leaf_at (s_max b) (rows (k_of b) (length message)) whole) (fragment_for b message) stands in
        let nodes = path_of_alike b.n w.one w.few (leaf_at (s_max b) (rows (k_of b) (length message)) whole) (fragment_for b message) stands in
        rw (none, er, ep, ea, e)
        (λ j. encoded (sized 0 (rows (k_of b) (length message))) whole (put 0 (roots j) root) (place_each b.n 192 (λ i. flat (nodes i j)) paths))

    -- the same with k, s_max and the length of a fragment as the code has them
    module _ (k s len : ℕ) (ek : k ≡ k_of b) (es : s ≡ s_max b) (el : len ≡ rows k (length message)) where
      pub encode_rows : rows k (length message) ≤ s
      encode_rows =
          let t = encode_taken none in
          rw (ek, es) (rows_most b (length message) (k_pos b (within b t.limited)) t.fits)

      pub encode_area : b.n * s ≤ length area
      encode_area = rw es (encode_taken none).area_room

      pub encode_rooms : (area1 paths1 : List ℕ) → length area1 ≡ length area → length paths1 ≡ length paths → Rooms b.n s len area1 paths1
      encode_rooms area1 paths1 la lp =
          let t = encode_taken none in
          let w = within b t.limited in
          record {
            some = w.one;
            few = w.few;
            fits = N.le_trans (N.le_of_eq el) encode_rows;
            short = rw es (s_max_le b w);
            fragments = N.le_trans encode_area (N.le_of_eq (sym la));
            slots = N.le_trans t.paths_room (N.le_of_eq (sym lp));
          }

      pub encode_made : (area1 root1 paths1 : List ℕ)
          → area1 ≡ place_each b.n s (λ i. fragment_of k (block k message) (suc i)) area
          → root1 ≡ put 0 (root_of b.n (leaf_at s len area1)) root
          → paths1 ≡ place_each b.n 192 (λ i. flat (path_of b.n (leaf_at s len area1) i)) paths
          → encoded (sized 0 len) area1 root1 paths1 ≡ encode_of b message area root paths
      encode_made area1 root1 paths1 ea er ep =
          encode_done len area1 root1 paths1 (rw ek at el)
          (subst (λ (x : ℕ). area1 ≡ place_each b.n x (λ i. fragment_of (k_of b) (block (k_of b) message) (suc i)) area) es
          (subst (λ (x : ℕ). area1 ≡ place_each b.n s (λ i. fragment_of x (block x message) (suc i)) area) ek ea))
          (subst (λ (x : ℕ). root1 ≡ put 0 (root_of b.n (leaf_at x len area1)) root) es er)
          (subst (λ (x : ℕ). paths1 ≡ place_each b.n 192 (λ i. flat (path_of b.n (leaf_at x len area1) i)) paths) es ep)

-- ---- rebuilding

pub record RebuildTaken (b : Table) (marked : ℕ) (lengths area out : List ℕ) : Type 0 where
  pub limited : limits b ≡ true
  pub lengths_room : 2 * b.n ≤ length lengths
  pub area_room : b.n * s_max b ≤ length area
  pub out_room : k_of b * s_max b ≤ length out
  pub below : marked / 2 ^ b.n ≡ 0
  pub sizes : some_outside b.n 1 (s_max b) marked lengths ≡ false
  pub enough : k_of b ≤ ones marked

module _ (b : Table) (marked : ℕ) (lengths area out : List ℕ) where
  pub rebuild_taken : rebuild_refusal b marked lengths area out ≡ 0 → RebuildTaken b marked lengths area out
  unfolding rebuild_refusal too_short by_lengths
  rebuild_taken e =
      let (e1, f1) = none_applies (not (limits b)) 0 _ e in
      let (e2, f2) = none_applies (too_short b.n (k_of b) (s_max b) (length lengths) (length area) (length out)) 1 _ f1 in
      let (e3, f3) = none_applies (not (eqb (marked / 2 ^ b.n) 0)) 3 _ f2 in
      let (e4, f4) = none_applies (some_outside b.n 1 (s_max b) marked lengths) 6 _ f3 in
      let (e5, f5) = none_applies (ltb (ones marked) (k_of b)) 9 _ f4 in
      let r = or_none_r (ltb (length lengths) (2 * b.n)) _ e2 in
      record {
        limited = not_none (limits b) e1;
        lengths_room = ltb-false _ _ (or_none_l (ltb (length lengths) (2 * b.n)) _ e2);
        area_room = ltb-false _ _ (or_none_l (ltb (length area) (b.n * s_max b)) _ r);
        out_room = ltb-false _ _ (or_none_r (ltb (length area) (b.n * s_max b)) _ r);
        below = eqb-true _ _ (not_none (eqb (marked / 2 ^ b.n) 0) e3);
        sizes = e4;
        enough = ltb-false _ _ e5;
      }

  -- a table outside its limits
  pub rebuild_outside : limits b ≡ false → 1 ≡ rebuild_refusal b marked lengths area out
  unfolding rebuild_refusal pick
  rebuild_outside h = rw h

  pub rebuild_refused : (q : ℕ) → (q ≡ 0 → ⊥) → q ≡ rebuild_refusal b marked lengths area out → Rebuilds b marked lengths area out (sized q 0) out
  rebuild_refused q some e = record {
    refused = λ p f. (ap (λ (q : ℕ). sized q 0) (e ∙ f), refl);
    found = λ f. absurd (some (e ∙ f));
    none = λ f. absurd (some (e ∙ f));
  }

  module _ (taken : rebuild_refusal b marked lengths area out ≡ 0) where
    -- there is a lowest marked board, and its length is from 1 to s_max
    pub first_below : first_of (has marked) 0 b.n < b.n
    first_below =
        let t = rebuild_taken taken in
        first_marked b.n marked t.below (N.lt_of_lt_of_le (k_pos b (within b t.limited)) t.enough)

    pub common_size : (1 ≤ common_length b.n marked lengths) × (common_length b.n marked lengths ≤ s_max b)
    unfolding common_length some_outside
    common_size =
        let t = rebuild_taken taken in
        let i = first_of (has marked) 0 b.n in
        let m = first_holds (has marked) 0 b.n (N.lt_of_lt_of_le first_below (N.le_of_eq (sym (N.zero-add b.n)))) in
        inside (leb 1 (length_at lengths i)) (leb (length_at lengths i) (s_max b)) (leb-true _ _) (leb-true _ _)
        (sym (ap (λ (c : Bool). c && not (leb 1 (length_at lengths i) && leb (length_at lengths i) (s_max b))) m)
        ∙ some_at (λ (i : ℕ). has marked i && not (leb 1 (length_at lengths i) && leb (length_at lengths i) (s_max b))) 0 b.n t.sizes i (omega arith)
        (N.lt_of_lt_of_le first_below (N.le_of_eq (sym (N.zero-add b.n)))))
      where
        inside : {A B : Type 0} (x y : Bool) → (x ≡ true → A) → (y ≡ true → B) → true && not (x && y) ≡ false → A × B
        inside true true f g e = (f refl, g refl)
        inside true false f g e = absurd (let z : ◌≡◌ {A = ℕ} 0 1 = cc in omega arith)
        inside false y f g e = absurd (let z : ◌≡◌ {A = ℕ} 0 1 = cc in omega arith)

    -- what the search for a block leaves
    pub rebuilt_yes : (len : ℕ) (new : List ℕ) → len ≡ common_length b.n marked lengths
        → Rebuilt b.n (k_of b) (s_max b) len marked area out true new → Rebuilds b marked lengths area out (sized 0 (len * k_of b)) new
    rebuilt_yes len new e r = record {
      refused = λ q f. absurd (let z : ◌≡◌ {A = ℕ} 0 (suc q) = sym taken ∙ f in omega arith);
      found = λ f d a. (ap (sized 0) (ap (λ (n : ℕ). n * k_of b) e ∙ sym a.size), (r.found d (same d a)).1);
      none = λ f n. absurd (let z : ◌≡◌ {A = Bool} true false = (r.none (λ d a. n d (back d a))).0 in let q : ◌≡◌ {A = ℕ} 0 1 = cc in omega arith);
    }
      where
        same : (d : List ℕ) → Agrees b.n (k_of b) (s_max b) (common_length b.n marked lengths) marked area d → Agrees b.n (k_of b) (s_max b) len marked area d
        same d a = subst (λ (n : ℕ). Agrees b.n (k_of b) (s_max b) n marked area d) (sym e) a

        back : (d : List ℕ) → Agrees b.n (k_of b) (s_max b) len marked area d → Agrees b.n (k_of b) (s_max b) (common_length b.n marked lengths) marked area d
        back d a = subst (λ (n : ℕ). Agrees b.n (k_of b) (s_max b) n marked area d) e a

    pub rebuilt_no : (len : ℕ) (new : List ℕ) → len ≡ common_length b.n marked lengths
        → Rebuilt b.n (k_of b) (s_max b) len marked area out false new → Rebuilds b marked lengths area out (sized 11 0) new
    rebuilt_no len new e r = record {
      refused = λ q f. absurd (let z : ◌≡◌ {A = ℕ} 0 (suc q) = sym taken ∙ f in omega arith);
      found = λ f d a. absurd (let z : ◌≡◌ {A = Bool} false true = (r.found d (subst (λ (n : ℕ). Agrees b.n (k_of b) (s_max b) n marked area d) (sym e) a)).0 in
          let q : ◌≡◌ {A = ℕ} 0 1 = cc in omega arith);
      none = λ f n. (refl, (r.none (λ d a. n d (subst (λ (n : ℕ). Agrees b.n (k_of b) (s_max b) n marked area d) e a))).1);
    }

  -- the length that the code finds is that of the lowest marked fragment
  pub ok_length : (r : Result ℕ Refusal) → refused r ≡ rebuild_refusal b marked lengths area out
      → IfOk r (λ len. (first_of (has marked) 0 b.n < b.n → len ≡ common_length b.n marked lengths) × (b.n ≤ first_of (has marked) 0 b.n → len ≡ 0))
      → IfOk r (λ len. len ≡ common_length b.n marked lengths)
  ok_length (Ok len) e h = h.0 (first_below (sym e))
  ok_length (Err r) e h = h

  -- the length of the lowest marked fragment, as the code has it
  pub rebuild_length : (first len : ℕ) → first ≡ first_of (has marked) 0 b.n → len ≡ length_at lengths first → len ≡ common_length b.n marked lengths
  unfolding common_length
  rebuild_length first len e f = f ∙ ap (length_at lengths) e

  -- the same with k, s_max and the length as the code has them
  module _ (taken : rebuild_refusal b marked lengths area out ≡ 0) (k s len : ℕ) (ek : k ≡ k_of b) (es : s ≡ s_max b)
      (el : len ≡ common_length b.n marked lengths) where
    len_most : len ≤ s
    len_most = N.le_trans (N.le_of_eq el) (N.le_trans (common_size taken).1 (N.le_of_eq (sym es)))

    -- the block has at most 64 times 16,388 bytes, and room
    pub rebuild_size : len * k ≤ 1048832
    rebuild_size =
        let w = within b (rebuild_taken taken).limited in
        N.le_trans (N.le_of_eq (N.mul_comm len k)) (room_le k len (N.le_trans (N.le_of_eq ek) (k_few b w)) (N.le_trans len_most (N.le_trans (N.le_of_eq es) (s_max_le b w))))

    pub rebuild_rooms : (b.n ≤ 64) × (0 < k) × (k ≤ 64) × (b.n * s ≤ length area) × (s ≤ 16388) × (0 < len) × (len ≤ s) × (marked / 2 ^ b.n ≡ 0) × (k ≤ ones marked)
        × (len * k ≤ length out)
    rebuild_rooms =
        let t = rebuild_taken taken in
        let w = within b t.limited in (
          w.few,
          N.lt_of_lt_of_le (k_pos b w) (N.le_of_eq (sym ek)),
          N.le_trans (N.le_of_eq ek) (k_few b w),
          rw es t.area_room,
          rw es (s_max_le b w),
          N.lt_of_lt_of_le (common_size taken).0 (N.le_of_eq (sym el)),
          len_most,
          t.below,
          N.le_trans (N.le_of_eq ek) t.enough,
          N.le_trans (N.le_of_eq (N.mul_comm len k)) (N.le_trans (mul-le-mul (N.le_of_eq ek) (N.le_trans len_most (N.le_of_eq es))) t.out_room),
        )

    -- the answer, by what was found
    abbrev pub found_or : Bool → Sized
    found_or true = sized 0 (len * k)
    found_or false = sized 11 0

    pub rebuilt_made : (r : Bool) (new : List ℕ) → Rebuilt b.n k s len marked area out r new → Rebuilds b marked lengths area out (found_or r) new
    rebuilt_made r new h = by r (subst (λ (x : ℕ). Rebuilt b.n (k_of b) x len marked area out r new) es (subst (λ (x : ℕ). Rebuilt b.n x s len marked area out r new) ek h))
      where
        by : (r : Bool) → Rebuilt b.n (k_of b) (s_max b) len marked area out r new → Rebuilds b marked lengths area out (found_or r) new
        by true h = rw ek (rebuilt_yes taken len new el h)
        by false h = rebuilt_no taken len new el h
