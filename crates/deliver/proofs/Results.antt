-- What a delivery is worth: fragments of a message give it back; what is delivered has the root; only the fragments in the set count.
-- Assumes nothing.
use mathlib.Core.Path.{◌≡◌, refl, sym, ap, ap₂, ◌∙◌}
use mathlib.Core.Bool.{Bool, true, false, ◌&&◌}
use mathlib.Core.List.{List, [], ◌∷◌, ◌++◌}
use mathlib.Core.Option.{Option, none, some}
use Prim.Native.Nat.{ℕ, zero, suc, ◌-◌, ◌*◌, ◌/◌, ◌^◌, ◌<◌, ◌≤◌}
use native.Mathlib.Nat as N
use native.Mathlib.Omega.{arith}
use lib.Count.{ones}
use lib.Dec.{eqb}
use lib.ListN.{length, get_or, take}
use Rattle.octets.specs.Bytes.{pick, same}
use Rattle.octets.specs.Sets.{has}
use Rattle.table.specs.Table.{limits, k_of}
use Rattle.table.specs.declared.Table.{Table}
use Rattle.table.proofs.Within.{within, k_pos}
use Rattle.code.specs.Code.{All, Byte, fragment_of}
use Rattle.code.specs.Block.{rows, block, readable, block_message}
use Rattle.code.proofs.Blocks.{length_block, length_fragment}
use Rattle.code.proofs.Lists.{map_at}
use Rattle.code.proofs.Reading.{readable_facts, block_readable, block_message_lem}
use Rattle.code_encode.specs.Message.{fragment_for}
use Rattle.code_through.specs.Through.{marks, through, block_through}
use Rattle.octets.proofs.Sames.{same_equal, same_self}
use Rattle.code_through.proofs.Marks.{between, marks_have}
use Rattle.code_through.proofs.Rows.{first_take}
use Rattle.code_through.proofs.Agree.{apart_first, bytes_first, enough_marks, length_first}
use Rattle.code_through.proofs.Encoded.{bytes_block}
use Rattle.code_through.proofs.Interpolation.{block_through_lem}
use Rattle.tree.specs.Tree.{root_of}
use Rattle.deliver.specs.Delivered.{all_of_length, block_read, read_from, afresh, result_from, result_of}
use Rattle.deliver.proofs.Lengths.{at_lengths}
use Rattle.deliver.proofs.Delivering.{equal}

-- ---- the fragments of the boards xs are all that counts

module _ (f g : ℕ → List ℕ) where
  same_lengths : (len : ℕ) (xs : List ℕ) → ((i : ℕ) → i < length xs → f (get_or xs i 0) ≡ g (get_or xs i 0)) → all_of_length len xs f ≡ all_of_length len xs g
  unfolding all_of_length
  same_lengths len [] h = refl
  same_lengths len (x ∷ xs) h = ap₂ (λ (l : List ℕ) (c : Bool). eqb (length l) len && c) (h 0 (omega arith)) (same_lengths len xs (λ i b. h (suc i) (omega arith)))

  same_block : (len : ℕ) (xs : List ℕ) → ((i : ℕ) → i < length xs → f (get_or xs i 0) ≡ g (get_or xs i 0)) → block_through len xs f ≡ block_through len xs g
  unfolding block_through
  same_block zero xs h = refl
  same_block (suc c) xs h =
      ap₂ ◌++◌ (same_block c xs h)
      (ap (through xs) (map_at (λ x. get_or (f x) c 0) (λ x. get_or (g x) c 0) xs (λ i b. ap (λ (l : List ℕ). get_or l c 0) (h i b))))

  read_same : (b : Table) (xs : List ℕ) → 0 < length xs → ((i : ℕ) → i < length xs → f (get_or xs i 0) ≡ g (get_or xs i 0)) → read_from b xs f ≡ read_from b xs g
  unfolding read_from
  read_same b xs pos h =
      let n = length (f (get_or xs 0 0)) in
      ap₂ (λ (c : Bool) (l : List ℕ). pick c (block_read b l) none) (same_lengths n xs h) (same_block n xs h)
      ∙ ap (λ (l : List ℕ). pick (all_of_length (length l) xs g) (block_read b (block_through (length l) xs g)) none) (h 0 pos)

  from_same : (b : Table) (root xs : List ℕ) → 0 < length xs → ((i : ℕ) → i < length xs → f (get_or xs i 0) ≡ g (get_or xs i 0))
      → result_from b root xs f ≡ result_from b root xs g
  unfolding result_from
  from_same b root xs pos h = ap (afresh b root) (read_same b xs pos h)

-- ---- a message's own block

own_block : (b : Table) (message : List ℕ) → limits b ≡ true → length message ≤ b.longest
    → afresh b (root_of b.n (fragment_for b message)) (block_read b (block (k_of b) message)) ≡ some message
unfolding afresh block_read pick
own_block b message limited fits =
    let w = within b limited in
    let k = k_of b in
    let short : length message ≤ 16384 = omega (arith, w.short) in
    let root = root_of b.n (fragment_for b message) in
    ap₂ (λ (c : Bool) (m : List ℕ). afresh b root (pick c (some m) none))
    (block_readable k (k_pos b w) message short b.longest fits) (block_message_lem k (k_pos b w) message short)
    ∙ ap (λ (c : Bool). pick c (some message) none) (same_self root)

own_fragment : (b : Table) (message : List ℕ) (i : ℕ) → fragment_for b message i ≡ fragment_of (k_of b) (block (k_of b) message) (suc i)
unfolding fragment_for
own_fragment b message i = refl

-- ---- from a set

module _ (b : Table) (set : ℕ) (limited : limits b ≡ true) (below : set / 2 ^ b.n ≡ 0) (enough : k_of b ≤ ones set) where
  abbrev points : List ℕ
  points = take (k_of b) (marks 1 b.n set)

  pos : 0 < k_of b
  pos = k_pos b (within b limited)

  size : length points ≡ k_of b
  size = length_first b.n (k_of b) 0 0 set [] pos (within b limited).few below enough

  -- each of the k lowest-numbered boards is in the set
  at_points : (f g : ℕ → List ℕ) → ((i : ℕ) → i < b.n → has set i ≡ true → f (suc i) ≡ g (suc i)) → (i : ℕ) → i < length points → f (get_or points i 0) ≡ g (get_or points i 0)
  at_points f g h i l =
      let t = first_take (k_of b) (marks 1 b.n set) (enough_marks b.n (k_of b) 0 0 set [] pos (within b limited).few below enough) in
      let j : i < length (marks 1 b.n set) = N.lt_of_lt_of_le l t.fewer in
      let x = get_or (marks 1 b.n set) i 0 in
      let v = between 1 b.n set i j in
      let e : x ≡ suc (x - 1) = omega arith in
      ap f (t.same i l ∙ e) ∙ h (x - 1) (omega arith) (marks_have 1 b.n set i j) ∙ sym (ap g (t.same i l ∙ e))

  -- only the fragments in the set count
  pub result_same : (root : List ℕ) (f g : ℕ → List ℕ) → ((i : ℕ) → i < b.n → has set i ≡ true → f (suc i) ≡ g (suc i))
      → result_of b root set f ≡ result_of b root set g
  unfolding result_of
  result_same root f g h = from_same f g b root points (omega (arith, size, pos)) (at_points f g h)

  -- a message's own fragments, whichever are in the set, give the message back
  pub result_back : (message : List ℕ) → All Byte message → length message ≤ b.longest → (fragment : ℕ → List ℕ)
      → ((i : ℕ) → i < b.n → has set i ≡ true → fragment (suc i) ≡ fragment_for b message i)
      → result_of b (root_of b.n (fragment_for b message)) set fragment ≡ some message
  unfolding result_of
  result_back message bytes fits fragment h =
      let k = k_of b in
      let own = fragment_of (k_of b) (block (k_of b) message) in
      let len = rows (k_of b) (length message) in
      let root = root_of b.n (fragment_for b message) in
      let few = (within b limited).few in
      let l = length_fragment (k_of b) pos message in
      result_same root fragment own (λ i g y. h i g y ∙ own_fragment b message i)
      ∙ equal b root points own len (sym (l (get_or points 0 0))) true (sym (at_lengths len points own (λ i g. l (get_or points i 0)))) refl
      ∙ ap (λ (l : List ℕ). afresh b root (block_read b l))
      (block_through_lem points own len (block (k_of b) message) (omega (arith, size, pos)) (apart_first b.n set few (k_of b)) (bytes_first b.n set few (k_of b))
      (length_block (k_of b) pos message ∙ ap (λ (n : ℕ). rows (k_of b) (length message) * n) (sym size)) (bytes_block (k_of b) message bytes)
      (λ i g. ap (λ (n : ℕ). fragment_of n (block (k_of b) message) (get_or points i 0)) size))
      ∙ own_block b message limited fits

-- ---- what is delivered

some_same : (m n : List ℕ) → ◌≡◌ {A = Option (List ℕ)} (some m) (some n) → m ≡ n
some_same m n e = cc

none_some : {D : Type 0} (m : List ℕ) → ◌≡◌ {A = Option (List ℕ)} none (some m) → D
none_some m e = absurd (let z : ◌≡◌ {A = ℕ} 0 1 = cc in omega arith)

some_picked : (c : Bool) (o : Option (List ℕ)) (m : List ℕ) → pick c o none ≡ some m → (c ≡ true) × (o ≡ some m)
unfolding pick
some_picked true o m e = (refl, e)
some_picked false o m e = none_some m e

-- a message that is read stands in the block that the fragments give
pub record Read (b : Table) (xs : List ℕ) (fragment : ℕ → List ℕ) (m : List ℕ) : Type 0 where
  pub message : block_message (block_through (length (fragment (get_or xs 0 0))) xs fragment) ≡ m
  pub reads : readable (k_of b) b.longest (block_through (length (fragment (get_or xs 0 0))) xs fragment) ≡ true

pub read_why : (b : Table) (xs : List ℕ) (fragment : ℕ → List ℕ) (m : List ℕ) → read_from b xs fragment ≡ some m → Read b xs fragment m
unfolding read_from block_read
read_why b xs fragment m e =
    let d = block_through (length (fragment (get_or xs 0 0))) xs fragment in
    let p = some_picked (readable (k_of b) b.longest d) (some (block_message d)) m (some_picked (all_of_length (length (fragment (get_or xs 0 0))) xs fragment) _ m e).1 in
    record { message = some_same (block_message d) m p.1; reads = p.0 }

-- a message that is delivered was read, and has the root
afresh_why : (b : Table) (root : List ℕ) (o : Option (List ℕ)) (m : List ℕ) → afresh b root o ≡ some m → (o ≡ some m) × (root_of b.n (fragment_for b m) ≡ root)
unfolding afresh
afresh_why b root none m e = none_some m e
afresh_why b root (some x) m e =
    let p = some_picked (same (root_of b.n (fragment_for b x)) root) (some x) m e in
    (p.1, ap (λ (m : List ℕ). root_of b.n (fragment_for b m)) (sym (some_same x m p.1)) ∙ same_equal (root_of b.n (fragment_for b x)) root p.0)

module _ (b : Table) (root : List ℕ) (set : ℕ) (fragment : ℕ → List ℕ) (m : List ℕ) (e : result_of b root set fragment ≡ some m) where
  abbrev points_of : List ℕ
  points_of = take (k_of b) (marks 1 b.n set)

  pub result_read : (read_from b points_of fragment ≡ some m) × (root_of b.n (fragment_for b m) ≡ root)
  unfolding result_of result_from
  result_read = afresh_why b root (read_from b points_of fragment) m e

  -- a message that is delivered has at most L bytes, and the root
  pub result_root : limits b ≡ true → (length m ≤ b.longest) × (root_of b.n (fragment_for b m) ≡ root)
  result_root limited =
      let r = read_why b points_of fragment m result_read.0 in
      let f = readable_facts (k_of b) b.longest (block_through (length (fragment (get_or points_of 0 0))) points_of fragment) (k_pos b (within b limited)) r.reads in
      (omega (arith, f.fits, f.size, ap length r.message), result_read.1)
