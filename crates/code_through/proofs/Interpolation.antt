-- The polynomial, and the block, through given fragments: it is there, and it is the only one.
-- Assumes nothing.
use mathlib.Core.Path.{◌≡◌, refl, sym, ap, ap₂, ◌∙◌, subst}
use mathlib.Core.Logic.{⊎_elim}
use mathlib.Core.List.{List, [], ◌∷◌, ◌++◌, map}
use Prim.Native.Nat.{ℕ, zero, suc, ◌+◌, ◌-◌, ◌*◌, ◌/◌, ◌^◌, ◌<◌, ◌≤◌}
use native.Mathlib.Nat as N
use native.Mathlib.Omega.{arith}
use lib.Count.{ones}
use lib.ListN.{length, get_or, take, drop, length-append, length-take, length-drop, length-map, get_or-eq_default}
use lib.Seq.{drop_at, take_all, drop-append-le, take-append-le, get_or-take, ext_get_or}
use Rattle.octets.specs.Bytes.{part}
use Rattle.octets.proofs.Laws.{length_part}
use Rattle.octets.proofs.Walk.{lt_or_le}
use Rattle.field.specs.Field.{add, mul}
use Rattle.field.specs.Tables.{inverse}
use Rattle.code.specs.Code.{All, Byte, Apart, value, row, fragment_of}
use Rattle.code.proofs.Polynomials as P
use Rattle.code.proofs.Editions.{bytes, values_eval}
use Rattle.code.proofs.Lists.{all_of, distinct_of, get_d_map, map_at, at_map}
use Rattle.code_through.specs.Rebuild.{Agrees, HasFragments}
use Rattle.code_through.specs.Through.{marks, attach, slopes, through, fragment_in_area, block_through}
use Rattle.octets.proofs.Parts.{get_d_part}
use Rattle.code.proofs.Lists.{all_append}
use Rattle.code_through.proofs.Marks.{between, apart_marks, length_marks, marks_have, marks_find}
use Rattle.code_through.proofs.Rows.{row_ends, length_row, bytes_row, same_cells}
use Rattle.code_through.proofs.Agree.{length_fragment, fragment_at, boards, bytes_marks, bytes_first, apart_first, length_first}

-- ---- the polynomial

attach_same : (x y : ℕ) (q : List ℕ) → attach x y q ≡ P.attach bytes x y q
unfolding attach P.attach
attach_same x y [] = refl
attach_same x y (d ∷ ds) = ap (◌∷◌ (add y (mul x d))) (attach_same x d ds)

slopes_same : (x y : ℕ) (zs vs : List ℕ) → slopes x y zs vs ≡ P.slopes bytes x y zs vs
unfolding slopes P.slopes
slopes_same x y [] vs = refl
slopes_same x y (z ∷ zs) [] = refl
slopes_same x y (z ∷ zs) (v ∷ vs) = ap (◌∷◌ (mul (add v y) (inverse (add z x)))) (slopes_same x y zs vs)

through_same : (xs ys : List ℕ) → through xs ys ≡ P.interp bytes xs ys
unfolding through P.interp
through_same [] ys = refl
through_same (x ∷ xs) [] = refl
through_same (x ∷ xs) (y ∷ ys) =
    attach_same x y (through xs (slopes x y xs ys))
    ∙ ap (P.attach bytes x y) (through_same xs (slopes x y xs ys) ∙ ap (P.interp bytes xs) (slopes_same x y xs ys))

-- it has as many coefficients as there are points
pub length_through : (xs ys : List ℕ) → length xs ≡ length ys → length (through xs ys) ≡ length xs
length_through xs ys l = ap length (through_same xs ys) ∙ P.length_interp bytes xs ys l

pub bytes_through : (xs ys : List ℕ) → All Byte ys → All Byte (through xs ys)
bytes_through xs ys h = subst (All Byte) (sym (through_same xs ys)) (P.ok_interp bytes xs ys h)

-- it takes the values
pub through_takes : (xs ys : List ℕ) → length xs ≡ length ys → Apart xs → All Byte xs → All Byte ys → map (value (through xs ys)) xs ≡ ys
through_takes xs ys l a hx hy =
    ap (λ (p : List ℕ). map (value p) xs) (through_same xs ys) ∙ values_eval (P.interp bytes xs ys) xs
    ∙ P.interp_at bytes xs ys l (distinct_of xs a) hx hy

-- and no other does
pub through_only : (xs ys p : List ℕ) → length p ≡ length xs → Apart xs → All Byte xs → All Byte p → map (value p) xs ≡ ys → through xs ys ≡ p
through_only xs ys p l a hx hp e =
    through_same xs ys ∙ ap (P.interp bytes xs) (sym e ∙ values_eval p xs) ∙ P.interp_back bytes xs p (sym l) (distinct_of xs a) hx hp

-- ---- the block

module _ (xs : List ℕ) (fragment : ℕ → List ℕ) where
  -- byte c of each fragment
  abbrev column : ℕ → List ℕ
  column c = map (λ x. get_or (fragment x) c 0) xs

  length_column : (c : ℕ) → length xs ≡ length (column c)
  length_column c = sym (length-map xs (λ x. get_or (fragment x) c 0))

  bytes_column : (c : ℕ) → ((x d : ℕ) → get_or (fragment x) d 0 < 256) → All Byte (column c)
  bytes_column c h =
      all_of Byte (column c)
      (λ i g. subst (λ (v : ℕ). v < 256) (sym (get_d_map (λ x. get_or (fragment x) c 0) xs i (omega (arith, length_column c)))) (h (get_or xs i 0) c))

  next_row : (c : ℕ) → block_through (suc c) xs fragment ≡ block_through c xs fragment ++ through xs (column c)
  unfolding block_through
  next_row c = refl

  pub length_block_through : (len : ℕ) → length (block_through len xs fragment) ≡ len * length xs
  unfolding block_through
  length_block_through zero = sym (N.zero-mul (length xs))
  length_block_through (suc c) =
      ap length (next_row c) ∙ length-append (block_through c xs fragment) (through xs (column c))
      ∙ ap₂ ◌+◌ (length_block_through c) (length_through xs (column c) (length_column c)) ∙ sym (N.suc-mul c (length xs))

  pub bytes_block_through : (len : ℕ) → ((x d : ℕ) → get_or (fragment x) d 0 < 256) → All Byte (block_through len xs fragment)
  unfolding block_through
  bytes_block_through zero h = tt
  bytes_block_through (suc c) h =
      all_append Byte (block_through c xs fragment) (through xs (column c)) (bytes_block_through c h) (bytes_through xs (column c) (bytes_column c h))

  -- row c goes through byte c of the fragments
  pub row_block_through : (len c : ℕ) → c < len → row (length xs) (block_through len xs fragment) c ≡ through xs (column c)
  unfolding row part
  row_block_through zero c h = absurd (omega arith)
  row_block_through (suc d) c h =
      let k = length xs in
      let b = block_through d xs fragment in
      let r = through xs (column d) in
      let m = length_block_through d in
      ap (λ (l : List ℕ). take k (drop (c * k) l)) (next_row d)
      ∙ ⊎_elim
      (λ e.
      ap (λ (c : ℕ). take (length xs) (drop (c * length xs) (b ++ r))) e
      ∙ ap (take (length xs)) (drop_at b r (d * length xs) m)
      ∙ take_all (length xs) r (N.le_of_eq (length_through xs (column d) (length_column d)))
      ∙ ap (λ (c : ℕ). through xs (column c)) (sym e))
      (λ l.
      let f : c * length xs + length xs ≤ length b = omega (arith, row_ends c (length xs) d l, m) in
      ap (take (length xs)) (drop-append-le (c * length xs) b r (omega arith))
      ∙ take-append-le (length xs) (drop (c * length xs) b) r (omega (arith, length-drop (c * length xs) b))
      ∙ row_block_through d c l)
      (N.eq-or-lt_of_le (N.le_of_suc-le-suc h))

  -- a block with these fragments is the block through them
  pub block_through_lem : (len : ℕ) (b : List ℕ) → 0 < length xs → Apart xs → All Byte xs → length b ≡ len * length xs → All Byte b
      → ((i : ℕ) → i < length xs → fragment_of (length xs) b (get_or xs i 0) ≡ fragment (get_or xs i 0)) → block_through len xs fragment ≡ b
  block_through_lem len b pos a hx size hb f =
      ext_get_or 0 (block_through len xs fragment) b (length_block_through len ∙ sym size)
      (λ p h. same_cells (length xs) len (block_through len xs fragment) b pos (λ c g. row_block_through len c g ∙ the_row c g) p
      (omega (arith, length_block_through len)))
    where
      the_row : (c : ℕ) → c < len → through xs (column c) ≡ row (length xs) b c
      the_row c g =
          through_only xs (column c) (row (length xs) b c) (length_row (length xs) c b (omega (arith, row_ends c (length xs) len g, size))) a hx
          (bytes_row (length xs) c b hb)
          (map_at (value (row (length xs) b c)) (λ x. get_or (fragment x) c 0) xs
          (λ i h. sym (fragment_at (length xs) len pos b size (get_or xs i 0) c g) ∙ ap (λ (l : List ℕ). get_or l c 0) (f i h)))

  -- the block through fragments of one length has them: it agrees with exactly those
  pub through_rebuilds : (len : ℕ) → 0 < length xs → Apart xs → All Byte xs → ((x d : ℕ) → get_or (fragment x) d 0 < 256)
      → ((i : ℕ) → i < length xs → length (fragment (get_or xs i 0)) ≡ len) → HasFragments (length xs) len xs fragment (block_through len xs fragment)
  through_rebuilds len pos a hx small even = record {
    size = size;
    bytes = bytes_block_through len small;
    same = λ i h.
        let x = get_or xs i 0 in
        let l = length_fragment (length xs) len pos (block_through len xs fragment) size x in
        ext_get_or 0 (fragment_of (length xs) (block_through len xs fragment) x) (fragment x) (l ∙ sym (even i h)) (λ c g. at i h c (omega arith));
  }
    where
      size : length (block_through len xs fragment) ≡ len * length xs
      size = length_block_through len

      at : (i : ℕ) → i < length xs → (c : ℕ) → c < len → get_or (fragment_of (length xs) (block_through len xs fragment) (get_or xs i 0)) c 0 ≡ get_or (fragment (get_or xs i 0)) c 0
      at i h c g =
          fragment_at (length xs) len pos (block_through len xs fragment) size (get_or xs i 0) c g
          ∙ ap (λ (r : List ℕ). value r (get_or xs i 0)) (row_block_through len c g)
          ∙ at_map (value (through xs (column c))) (λ x. get_or (fragment x) c 0) xs (through_takes xs (column c) (length_column c) a hx (bytes_column c small)) i h

  -- and no other does
  pub rebuilds_through : (len : ℕ) (b : List ℕ) → 0 < length xs → Apart xs → All Byte xs → HasFragments (length xs) len xs fragment b → block_through len xs fragment ≡ b
  rebuilds_through len b pos a hx g = block_through_lem len b pos a hx g.size g.bytes g.same

-- ---- the marked fragments of an area

module _ (n k s len marked : ℕ) (area : List ℕ) (pos : 0 < k) (few : n ≤ 64) (below : marked / 2 ^ n ≡ 0) where
  pub byte_in : ((p : ℕ) → get_or area p 0 < 256) → (x d : ℕ) → get_or (fragment_in_area s len area x) d 0 < 256
  unfolding fragment_in_area part
  byte_in h x d =
      ⊎_elim (λ l. subst (λ (v : ℕ). v < 256) (sym (get_d_part ((x - 1) * s) len d area l)) (h ((x - 1) * s + d)))
      (λ l. subst (λ (v : ℕ). v < 256) (sym (get_or-eq_default (fragment_in_area s len area x) 0 (omega (arith, length-take len (drop ((x - 1) * s) area))))) (omega arith))
      (lt_or_le d len)

  -- a block agrees exactly if it has the marked fragments in the area
  pub agrees_rebuilds : (b : List ℕ) → Agrees n k s len marked area b → HasFragments k len (marks 1 n marked) (fragment_in_area s len area) b
  unfolding fragment_in_area
  agrees_rebuilds b a = record {
    size = a.size;
    bytes = a.bytes;
    same = λ j h.
        let x = get_or (marks 1 n marked) j 0 in
        let w = between 1 n marked j h in
        let e : x ≡ suc (x - 1) = omega arith in
        ap (fragment_of k b) e ∙ a.same (x - 1) (omega arith) (marks_have 1 n marked j h);
  }

  pub rebuilds_agrees : (b : List ℕ) → HasFragments k len (marks 1 n marked) (fragment_in_area s len area) b → Agrees n k s len marked area b
  unfolding fragment_in_area
  rebuilds_agrees b g = record {
    size = g.size;
    bytes = g.bytes;
    same = λ i h m.
        let (j, l, e) = marks_find 1 n marked i h m in
        let z : suc i - 1 ≡ i = omega arith in
        let y : get_or (marks 1 n marked) j 0 ≡ suc i = omega arith in
        rw (y, z) at (g.same j l);
  }

  -- a block that agrees is the block through the first k marked fragments
  pub agrees_through : k ≤ ones marked → (b : List ℕ) → Agrees n k s len marked area b → block_through len (take k (marks 1 n marked)) (fragment_in_area s len area) ≡ b
  agrees_through enough b a =
      block_through_lem ps (fragment_in_area s len area) len b (omega (arith, l)) (apart_first n marked few k) (bytes_first n marked few k)
      (subst (λ (m : ℕ). length b ≡ len * m) (sym l) a.size) a.bytes
      (λ i h. subst (λ (m : ℕ). fragment_of m b (get_or ps i 0) ≡ fragment_in_area s len area (get_or ps i 0)) (sym l) (there i h))
    where
      ps : List ℕ
      ps = take k (marks 1 n marked)

      l : length (take k (marks 1 n marked)) ≡ k
      l = length_first n k s len marked area pos few below enough

      there : (i : ℕ) → i < length (take k (marks 1 n marked)) → fragment_of k b (get_or (take k (marks 1 n marked)) i 0) ≡ fragment_in_area s len area (get_or (take k (marks 1 n marked)) i 0)
      there i h =
          subst (λ (x : ℕ). fragment_of k b x ≡ fragment_in_area s len area x) (sym (get_or-take k (marks 1 n marked) i 0 (omega (arith, l))))
          ((agrees_rebuilds b a).same i (omega (arith, l, length-take k (marks 1 n marked))))

  -- where exactly k are marked, the block through them agrees
  pub through_agrees : ones marked ≡ k → ((p : ℕ) → get_or area p 0 < 256) → n * s ≤ length area → len ≤ s
      → Agrees n k s len marked area (block_through len (marks 1 n marked) (fragment_in_area s len area))
  unfolding fragment_in_area
  through_agrees exact small room low =
      let xs = marks 1 n marked in
      let l : length (marks 1 n marked) ≡ k = length_marks 1 n marked below ∙ exact in
      rebuilds_agrees _
      (rw l at (through_rebuilds xs (fragment_in_area s len area) len (omega arith) (apart_marks 1 n marked) (bytes_marks n marked few) (byte_in small)
      (λ i g.
      let x = get_or (marks 1 n marked) i 0 in
      let (p, q, r) = boards n marked few s (length area) room i g in
      let e : x ≡ suc (x - 1) = omega arith in
      let f : x * s ≡ (x - 1) * s + s = ap (λ (y : ℕ). y * s) e ∙ N.suc-mul (x - 1) s in
      length_part ((x - 1) * s) len area (omega arith))))

  pub any_k : ones marked ≡ k → ((p : ℕ) → get_or area p 0 < 256) → n * s ≤ length area → len ≤ s → (b : List ℕ) × Agrees n k s len marked area b
  any_k exact small room low = (block_through len (marks 1 n marked) (fragment_in_area s len area), through_agrees exact small room low)
