-- Blocks that agree with the marked fragments: there is one at most.
-- Assumes nothing.
use mathlib.Core.Path.{◌≡◌, sym, ap, ◌∙◌, subst}
use mathlib.Core.List.{List}
use Prim.Native.Nat.{ℕ, suc, ◌+◌, ◌-◌, ◌*◌, ◌/◌, ◌^◌, ◌<◌, ◌≤◌}
use native.Mathlib.Nat as N
use native.Mathlib.Omega.{arith}
use lib.Count.{ones}
use lib.ListN.{length, get_or, take}
use lib.Seq.{length-take-le, ext_get_or}
use Rattle.octets.specs.Bytes.{part}
use Rattle.octets.proofs.Laws.{length_part}
use Rattle.octets.proofs.Tables.{length_tab, get_d_tab}
use Rattle.code.specs.Code.{All, Byte, Apart, value, row, fragment_byte, fragment_of}
use Rattle.code.proofs.Lists.{all_of, all_take, apart_take, map_at, at_map}
use Rattle.code_through.specs.Rebuild.{Agrees}
use Rattle.code_through.specs.Through.{marks}
use Rattle.code_sum.specs.Sums.{cell, InArea}
use Rattle.code_through.specs.Fits.{Fit, Some}
use Rattle.octets.proofs.Parts.{get_d_part}
use Rattle.code_through.proofs.Marks.{between, apart_marks, length_marks, marks_have, marks_find}
use Rattle.code_through.proofs.Rows.{solved, first_fit, first_take, row_ends, length_row, bytes_row, same_cells}

-- ---- fragments of a block of len rows

module _ (k len : ℕ) (pos : 0 < k) (b : List ℕ) (size : length b ≡ len * k) (x : ℕ) where
  rows_of : length b / k ≡ len
  rows_of = N.div-eq_of_eq-mul_left pos size

  pub length_fragment : length (fragment_of k b x) ≡ len
  unfolding fragment_of
  length_fragment = length_tab (length b / k) (fragment_byte k b x) ∙ rows_of

  pub fragment_at : (c : ℕ) → c < len → get_or (fragment_of k b x) c 0 ≡ value (row k b c) x
  unfolding fragment_of fragment_byte
  fragment_at c h = get_d_tab (length b / k) (fragment_byte k b x) c (omega (arith, rows_of))

-- ---- the marked boards

module _ (n marked : ℕ) (few : n ≤ 64) where
  pub boards : (s size : ℕ) → n * s ≤ size → InArea size s (marks 1 n marked)
  boards s size h i g =
      let w = between 1 n marked i g in
      (omega arith, omega arith, N.le_trans (N.mul-le-mul_right s (up w)) h)
    where
      up : {x : ℕ} → (1 ≤ x) × (x < 1 + n) → x ≤ n
      up w = omega arith

  pub bytes_marks : All Byte (marks 1 n marked)
  bytes_marks = all_of Byte (marks 1 n marked) (λ i h. let w = between 1 n marked i h in omega arith)

  module _ (k : ℕ) where
    -- the first k of them
    pub bytes_first : All Byte (take k (marks 1 n marked))
    bytes_first = all_take Byte k (marks 1 n marked) bytes_marks

    pub apart_first : Apart (take k (marks 1 n marked))
    apart_first = apart_take k (marks 1 n marked) (apart_marks 1 n marked)

-- ---- agreeing, byte by byte

module _ (n k s len marked : ℕ) (area : List ℕ) (pos : 0 < k) where
  pub agrees_fit : (b : List ℕ) → Agrees n k s len marked area b → (c : ℕ) → c < len → Fit area s c (marks 1 n marked) (row k b c)
  unfolding cell
  agrees_fit b a c h =
      map_at (value (row k b c)) (cell area s c) (marks 1 n marked)
      (λ j g.
      let x = get_or (marks 1 n marked) j 0 in
      let w = between 1 n marked j g in
      let e : x ≡ suc (x - 1) = omega arith in
      ap (value (row k b c)) e
      ∙ sym (fragment_at k len pos b a.size (suc (x - 1)) c h)
      ∙ ap (λ (l : List ℕ). get_or l c 0) (a.same (x - 1) (omega arith) (marks_have 1 n marked j g))
      ∙ get_d_part ((x - 1) * s) len c area h)

  -- a row of an agreeing block gives the bytes c of all marked fragments
  unfoldable pub agrees_some : (b : List ℕ) → Agrees n k s len marked area b → (c : ℕ) → c < len → Some area s c (marks 1 n marked) k
  agrees_some b a c h = record {
    line = row k b c;
    size = length_row k c b (omega (arith, row_ends c k len h, a.size));
    bytes = bytes_row k c b a.bytes;
    fits = agrees_fit b a c h;
  }

  pub fit_agrees : n * s ≤ length area → len ≤ s → (b : List ℕ) → length b ≡ len * k → All Byte b
      → ((c : ℕ) → c < len → Fit area s c (marks 1 n marked) (row k b c)) → Agrees n k s len marked area b
  unfolding cell
  fit_agrees room low b size hb f = record {
    size = size;
    bytes = hb;
    same = λ i h m.
        let z = length_part (i * s) len area (omega (arith, N.mul-le-mul_right s h)) in
        ext_get_or 0 (fragment_of k b (suc i)) (part (i * s) len area) (length_fragment k len pos b size (suc i) ∙ sym z)
        (λ c g.
        let l : c < len = omega (arith, length_fragment k len pos b size (suc i)) in
        let p = marks_find 1 n marked i h m in
        fragment_at k len pos b size (suc i) c l
        ∙ subst (λ (x : ℕ). value (row k b c) x ≡ get_or area ((x - 1) * s + c) 0) (p.2 ∙ next i)
        (at_map (value (row k b c)) (cell area s c) (marks 1 n marked) (f c l) p.0 p.1)
        ∙ ap (λ (q : ℕ). get_or area (q * s + c) 0) (back i)
        ∙ sym (get_d_part (i * s) len c area l));
  }
    where
      next : (i : ℕ) → 1 + i ≡ suc i
      next i = omega arith

      back : (i : ℕ) → suc i - 1 ≡ i
      back i = omega arith

  -- ---- the one block

  module _ (few : n ≤ 64) (below : marked / 2 ^ n ≡ 0) (enough : k ≤ ones marked) where
    pub enough_marks : k ≤ length (marks 1 n marked)
    enough_marks = omega (arith, length_marks 1 n marked below)

    pub length_first : length (take k (marks 1 n marked)) ≡ k
    length_first = length-take-le k (marks 1 n marked) enough_marks

    same_row : (b d : List ℕ) → Agrees n k s len marked area b → Agrees n k s len marked area d → (c : ℕ) → c < len → row k b c ≡ row k d c
    unfolding agrees_some
    same_row b d f g c h =
        let p = agrees_some b f c h in
        let q = agrees_some d g c h in
        let xs = marks 1 n marked in
        let t = first_take k xs enough_marks in
        let l = sym length_first in
        (solved area s c (take k xs) (row k d c) (apart_first n marked few k) (q.size ∙ l) (bytes_first n marked few k) q.bytes
        (first_fit area s c (take k xs) xs (row k d c) t q.fits)
        ).only (row k b c) (p.size ∙ l) p.bytes (first_fit area s c (take k xs) xs (row k b c) t p.fits)

    -- document 01, "the one block whose fragments are all those marked": any k fragments determine it
    pub one_block : (b d : List ℕ) → Agrees n k s len marked area b → Agrees n k s len marked area d → b ≡ d
    one_block b d f g =
        ext_get_or 0 b d (f.size ∙ sym g.size) (λ p h. same_cells k len b d pos (same_row b d f g) p (omega (arith, f.size)))
