-- How the steps of a delivery make up what is left.
-- Assumes nothing.
use mathlib.Core.Path.{◌≡◌, refl, sym, ap, ap₂, ◌∙◌, subst}
use mathlib.Core.Bool.{Bool, true, false}
use mathlib.Core.List.{List, []}
use mathlib.Core.Option.{Option, none, some}
use Prim.Native.Nat.{ℕ, suc, ◌+◌, ◌-◌, ◌*◌, ◌/◌, ◌%◌, ◌<◌, ◌≤◌, ◌^◌}
use native.Mathlib.Nat as N
use native.Mathlib.Omega.{arith}
use borrow.Author.Tests.{le-leb, eq-eqb}
use lib.Count.{ones}
use lib.ListN.{length, get_or, take}
use lib.Seq.{take-take, length-take-le}
use Rattle.std.specs.Prelude.{Some}
use Rattle.octets.specs.Bytes.{pick, part, put, same, four_at, two_at}
use Rattle.octets.specs.Sets.{has}
use Rattle.octets.proofs.Laws.{length_part}
use Rattle.octets.proofs.Picks.{and_on}
use Rattle.table.specs.Table.{limits, k_of, s_max}
use Rattle.table.specs.declared.Table.{Table}
use Rattle.table.proofs.Within.{within, k_pos}
use Rattle.code.specs.Code.{Apart, fragment_of}
use Rattle.code.specs.Block.{rows, block, readable, block_message}
use Rattle.code.proofs.Reading.{Readable, readable_facts}
use Rattle.code_encode.specs.Message.{fragment_for}
use Rattle.code_sum.specs.Sums.{InArea}
use Rattle.code_through.specs.Through.{marks, block_through}
use Rattle.code_sum.proofs.Weighing.{room}
use Rattle.code_through.proofs.Marks.{between, marks_have, length_marks}
use Rattle.code_through.proofs.Rows.{first_boards, first_take}
use Rattle.code_through.proofs.Agree.{boards, apart_first, enough_marks, length_first}
use Rattle.tree.specs.Tree.{root_of}
use Rattle.deliver.specs.declared.Delivery.TheVariants.{Message, Void}
use Rattle.deliver.specs.Delivered.{all_of_length, block_read, read_from, afresh, result_from, Left, left, left_by}
use Rattle.deliver_afresh.specs.Working.{Anew}
use Rattle.deliver.specs.Working.{fresh_byte, ReadAs}
use Rattle.deliver.proofs.Fresh.{anew}

abbrev leaves : ℕ → ℕ → List ℕ → Left
leaves k n out = record { kind = k; size = n; buffer = out }

-- void
pub left_void : (out : List ℕ) (o : Option (List ℕ)) → o ≡ none → left (Some Void) out ≡ left_by o out
unfolding left_by
left_void out o n = ap (λ (o : Option (List ℕ)). left_by o out) (sym n)

-- the rows that a message takes hold it and its length
pub rows_hold : (k m : ℕ) → 0 < k → 4 + m ≤ rows k m * k
unfolding rows
rows_hold k m pos = let x = m + 4 + (k - 1) in omega (arith, N.div-add-mod' x k, N.mod-lt x pos)

-- and the last of them begins in it
pub rows_before : (k m len : ℕ) → 0 < k → 0 < len → rows k m ≡ len → (len - 1) * k ≤ 4 + m
unfolding rows
rows_before k m len pos more e =
    let x = m + 4 + (k - 1) in
    let back : len - 1 + 1 ≡ len = omega arith in
    let q : (len - 1) * k + k ≡ len * k = sym (N.add-mul (len - 1) 1 k ∙ ap (λ (n : ℕ). (len - 1) * k + n) (N.one-mul k)) ∙ ap (λ (n : ℕ). n * k) back in
    omega (arith, N.div-mul-le_self x k, ap (λ (n : ℕ). n * k) e)

fragment_anew : (b : Table) (given : List ℕ) (len : ℕ) (l : List ℕ) (i : ℕ)
    → Anew (k_of b) len given l (suc i) (fragment_of (k_of b) (block (k_of b) (block_message given)) (suc i)) → Anew (k_of b) len given l (suc i) (fragment_for b (block_message given) i)
unfolding fragment_for
fragment_anew b given len l i a = a

-- the message, as it is written
message_left : (size : ℕ) (given old : List ℕ) → size ≡ four_at given 0 → length (block_message given) ≡ four_at given 0
    → leaves 1 size (put 0 (part 4 size given) old) ≡ left_by (some (block_message given)) old
unfolding left_by block_message
message_left size given old e l = ap (λ (n : ℕ). leaves 1 n (put 0 (part 4 n given) old)) e ∙ ap (λ (n : ℕ). leaves 1 n (put 0 (part 4 (four_at given 0) given) old)) (sym l)

pick_true : (m : List ℕ) → pick true (some m) none ≡ some m
unfolding pick
pick_true m = refl

never_true : (c : Bool) → (c ≡ true → ⊥) → c ≡ false
never_true true h = absurd (h refl)
never_true false h = refl

module _ (b : Table) (root given : List ℕ) (k len size : ℕ) (limited : limits b ≡ true) (ek : k ≡ k_of b) (whole : length given ≡ len * k) where
  pos : 0 < k_of b
  pos = k_pos b (within b limited)

  whole_rows : length given ≡ len * k_of b
  whole_rows = whole ∙ ap (λ (k : ℕ). len * k) ek

  -- a block that cannot be read
  unread : (Readable (k_of b) b.longest given → ⊥) → afresh b root (block_read b given) ≡ none
  unfolding afresh block_read pick
  unread never =
      ap (λ (c : Bool). afresh b root (pick c (some (block_message given)) none))
      (never_true (readable (k_of b) b.longest given) (λ e. never (readable_facts (k_of b) b.longest given pos e)))

  pub unread_short : len * k < 4 → afresh b root (block_read b given) ≡ none
  unread_short h = unread (λ r. omega (arith, r.inside))

  module _ (e : size ≡ four_at given 0) where
    pub unread_long : b.longest < size → afresh b root (block_read b given) ≡ none
    unread_long h = unread (λ r. omega (arith, r.fits))

    pub unread_rows : (rows k size ≡ len → ⊥) → afresh b root (block_read b given) ≡ none
    unread_rows differ =
        unread (λ r. differ (ap₂ rows ek e ∙ sym (N.mul-div_cancel (rows (k_of b) (four_at given 0)) pos)
        ∙ ap (λ (n : ℕ). n / k_of b) (sym r.whole ∙ whole_rows) ∙ N.mul-div_cancel len pos))

  -- a block that is read, and l, the last row of the one that is encoded afresh
  module _ (l : List ℕ) (R : ReadAs b k len given size l) where
    e : size ≡ four_at given 0
    e = R.size

    rows_given : rows (k_of b) (four_at given 0) ≡ len
    rows_given = ap₂ rows (sym ek) (sym e) ∙ R.count

    reads : readable (k_of b) b.longest given ≡ true
    unfolding readable
    reads =
        let most : four_at given 0 ≤ b.longest = omega (arith, R.size, R.fits) in
        let full : length given % k_of b ≡ 0 = ap (λ (n : ℕ). n % k_of b) whole_rows ∙ N.mul-mod_left len (k_of b) in
        let many : rows (k_of b) (four_at given 0) ≡ length given / k_of b = rows_given ∙ sym (ap (λ (n : ℕ). n / k_of b) whole_rows ∙ N.mul-div_cancel len pos) in
        let four_more : 4 ≤ length given = omega (arith, R.enough) in
        and_on _ _ (le-leb _ _ four_more) (and_on _ _ (eq-eqb _ _ full) (and_on _ _ (le-leb _ _ most) (eq-eqb _ _ many)))

    facts : Readable (k_of b) b.longest given
    facts = readable_facts (k_of b) b.longest given pos reads

    -- the fragments of the message that was read
    pub fragments_anew : 0 < len → ((p : ℕ) → get_or given p 0 < 256) → length l ≡ k → (i : ℕ) → Anew k len given l (suc i) (fragment_for b (block_message given) i)
    fragments_anew more small le =
        subst (λ (k : ℕ). length l ≡ k → ((q : ℕ) → q < k → get_or l q 0 ≡ fresh_byte (4 + size) given ((len - 1) * k + q))
        → (i : ℕ) → Anew k len given l (suc i) (fragment_for b (block_message given) i)) (sym ek) (at_k more small l) le R.last
      where
        at_k : 0 < len → ((p : ℕ) → get_or given p 0 < 256) → (l : List ℕ) → length l ≡ k_of b
            → ((q : ℕ) → q < k_of b → get_or l q 0 ≡ fresh_byte (4 + size) given ((len - 1) * k_of b + q)) → (i : ℕ) → Anew (k_of b) len given l (suc i) (fragment_for b (block_message given) i)
        at_k more small l le f i =
            fragment_anew b given len l i
            (anew (k_of b) b.longest given pos small facts len rows_given l more le
            (λ q h. f q h ∙ ap (λ (n : ℕ). fresh_byte (4 + n) given ((len - 1) * k_of b + q)) e) (suc i))

    -- the root that it is encoded to afresh
    module _ (fresh : List ℕ) (er : fresh ≡ root_of b.n (fragment_for b (block_message given))) where
      by_root : afresh b root (block_read b given) ≡ pick (same fresh root) (some (block_message given)) none
      unfolding afresh block_read pick
      by_root =
          ap (λ (c : Bool). afresh b root (pick c (some (block_message given)) none)) reads
          ∙ ap (λ (r : List ℕ). pick (same r root) (some (block_message given)) none) (sym er)

      pub root_differs : same fresh root ≡ false → afresh b root (block_read b given) ≡ none
      unfolding pick
      root_differs n = by_root ∙ ap (λ (c : Bool). pick c (some (block_message given)) none) n

      pub root_same : same fresh root ≡ true → (old new : List ℕ)
          → new ≡ put 0 (part 4 size given) old → left (Some (Message size)) new ≡ left_by (afresh b root (block_read b given)) old
      root_same y old new en =
          ap (leaves 1 size) en ∙ message_left size given old e facts.size
          ∙ ap (λ (o : Option (List ℕ)). left_by o old) (sym (by_root ∙ ap (λ (c : Bool). pick c (some (block_message given)) none) y ∙ pick_true (block_message given)))

-- ---- the kept fragments

-- what is known of the boards xs, whose fragments are delivered from
abbrev pub Kept : Table → List ℕ → List ℕ → ℕ → List ℕ → Type 0
Kept b lengths area s xs =
    (length xs ≡ k_of b) × InArea (length lengths) 2 xs × InArea (length area) s xs × Apart xs
    × ((i : ℕ) → i < length xs → (1 ≤ two_at lengths (2 * (get_or xs i 0 - 1))) × (two_at lengths (2 * (get_or xs i 0 - 1)) ≤ s))

-- the k lowest-numbered of a set are such
pub kept_first : (b : Table) (lengths area : List ℕ) (set : ℕ) → limits b ≡ true → 2 * b.n ≤ length lengths → b.n * s_max b ≤ length area
    → set / 2 ^ b.n ≡ 0 → k_of b ≤ ones set
    → ((i : ℕ) → i < b.n → has set i ≡ true → (1 ≤ two_at lengths (2 * i)) × (two_at lengths (2 * i) ≤ s_max b))
    → Kept b lengths area (s_max b) (take (k_of b) (marks 1 b.n set))
kept_first b lengths area set limited rl ra below enough sizes =
    let w = within b limited in
    let k = k_of b in
    let pos = k_pos b w in
    let xs = marks 1 b.n set in
    let f = first_take k xs (enough_marks b.n k 0 0 set [] pos w.few below enough) in
    let l = length_first b.n k 0 0 set [] pos w.few below enough in (
      l,
      first_boards (length lengths) 2 (take k xs) xs f (boards b.n set w.few 2 (length lengths) (omega arith)),
      first_boards (length area) (s_max b) (take k xs) xs f (boards b.n set w.few (s_max b) (length area) ra),
      apart_first b.n set w.few k,
      λ i h.
          let g : i < length (marks 1 b.n set) = N.lt_of_lt_of_le h f.fewer in
          let v = between 1 b.n set i g in
          subst (λ (x : ℕ). (1 ≤ two_at lengths (2 * (x - 1))) × (two_at lengths (2 * (x - 1)) ≤ s_max b)) (sym (f.same i h))
          (sizes (get_or xs i 0 - 1) (omega arith) (marks_have 1 b.n set i g)),
    )

-- the k lowest-numbered, in a list of all
pub lowest : (b : Table) (set : ℕ) (list : List ℕ) (r k : ℕ) → set / 2 ^ b.n ≡ 0 → k_of b ≤ ones set → r ≤ length list → take r list ≡ marks 1 b.n set
    → k ≡ k_of b → take k list ≡ take (k_of b) (marks 1 b.n set)
lowest b set list r k below enough fits e ek =
    let many : k_of b ≤ r = omega (arith, length-take-le r list fits, ap length e, length_marks 1 b.n set below) in
    ap (λ (k : ℕ). take k list) ek ∙ sym (take-take (k_of b) r list many) ∙ ap (take (k_of b)) e

-- the kept fragments have the lengths given for them
pub sized : (lengths area : List ℕ) (s : ℕ) (xs : List ℕ) → InArea (length area) s xs
    → ((i : ℕ) → i < length xs → (1 ≤ two_at lengths (2 * (get_or xs i 0 - 1))) × (two_at lengths (2 * (get_or xs i 0 - 1)) ≤ s))
    → (i : ℕ) → i < length xs → length (part ((get_or xs i 0 - 1) * s) (two_at lengths (2 * (get_or xs i 0 - 1))) area) ≡ two_at lengths (2 * (get_or xs i 0 - 1))
sized lengths area s xs inside sizes i h =
    let x = get_or xs i 0 in
    let n = two_at lengths (2 * (x - 1)) in
    let p = inside i h in
    length_part ((x - 1) * s) n area (omega (arith, room x s 0 n (length area) p.0 (omega (arith, (sizes i h).1)) p.2))

module _ (b : Table) (root xs : List ℕ) (fragment : ℕ → List ℕ) (len : ℕ) (e : len ≡ length (fragment (get_or xs 0 0))) (c : Bool) (h : c ≡ all_of_length len xs fragment) where
  by_lengths : read_from b xs fragment ≡ pick c (block_read b (block_through len xs fragment)) none
  unfolding read_from
  by_lengths =
      ap (λ (n : ℕ). pick (all_of_length n xs fragment) (block_read b (block_through n xs fragment)) none) (sym e)
      ∙ ap (λ (c : Bool). pick c (block_read b (block_through len xs fragment)) none) (sym h)

  pub unequal : c ≡ false → result_from b root xs fragment ≡ none
  unfolding result_from afresh pick
  unequal n = ap (afresh b root) (by_lengths ∙ ap (λ (c : Bool). pick c (block_read b (block_through len xs fragment)) none) n)

  pub equal : c ≡ true → result_from b root xs fragment ≡ afresh b root (block_read b (block_through len xs fragment))
  unfolding result_from pick
  equal y = ap (afresh b root) (by_lengths ∙ ap (λ (c : Bool). pick c (block_read b (block_through len xs fragment)) none) y)
