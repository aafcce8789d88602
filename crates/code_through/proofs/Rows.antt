-- Rows that give fragments: there is one at most.
-- Assumes nothing.
use mathlib.Core.Path.{◌≡◌, refl, sym, ap, ◌∙◌, subst}
use mathlib.Core.List.{List}
use Prim.Native.Nat.{ℕ, ◌+◌, ◌*◌, ◌/◌, ◌%◌, ◌<◌, ◌≤◌}
use native.Mathlib.Nat as N
use native.Mathlib.Omega.{arith}
use lib.ListN.{length, get_or, take, drop, length-take, length-drop}
use lib.Seq.{get_or-take, get_or-drop, length-take-le}
use Rattle.octets.specs.Bytes.{part}
use Rattle.code.specs.Code.{All, Byte, Apart, value, row}
use Rattle.code.proofs.Editions.{first, determined}
use Rattle.code.proofs.Lists.{distinct_of, map_at, at_map, all_take, all_drop}
use Rattle.code_sum.specs.Sums.{cell, InArea}
use Rattle.code_through.specs.Fits.{Fit, Solved, Some, First}

-- a row that gives the fragments is the only one: any k fragments determine the row
pub solved : (area : List ℕ) (s c : ℕ) (xs r : List ℕ) → Apart xs → length r ≡ length xs → All Byte xs → All Byte r → Fit area s c xs r → Solved area s c xs r
unfolding first
solved area s c xs r a l hx hr f = record {
  fits = f;
  only = λ q m hq g. determined (length xs) (first (length xs)) xs q r refl (distinct_of xs a) hx m l hq hr (g ∙ sym f);
}

-- what holds for marked fragments holds for the first of them
pub first_fit : (area : List ℕ) (s c : ℕ) (ps xs q : List ℕ) → First ps xs → Fit area s c xs q → Fit area s c ps q
first_fit area s c ps xs q f e =
    map_at (value q) (cell area s c) ps
    (λ i h. ap (value q) (f.same i h) ∙ at_map (value q) (cell area s c) xs e i (omega (arith, f.fewer)) ∙ ap (cell area s c) (sym (f.same i h)))

pub first_boards : (size s : ℕ) (ps xs : List ℕ) → First ps xs → InArea size s xs → InArea size s ps
first_boards size s ps xs f b i h =
    subst (λ (x : ℕ). (0 < x) × (x ≤ 64) × (x * s ≤ size)) (sym (f.same i h)) (b i (omega (arith, f.fewer)))

pub first_take : (k : ℕ) (xs : List ℕ) → k ≤ length xs → First (take k xs) xs
first_take k xs h = record {
  fewer = omega (arith, length-take-le k xs h);
  same = λ i g. get_or-take k xs i 0 (omega (arith, length-take-le k xs h));
}

-- the one row that gives the first of the marked fragments is the row that gives all, where some row does
pub some_same : (area : List ℕ) (s c : ℕ) (ps xs r : List ℕ) → First ps xs → Solved area s c ps r → (m : Some area s c xs (length ps)) → m.line ≡ r
some_same area s c ps xs r f v m = v.only m.line m.size m.bytes (first_fit area s c ps xs m.line f m.fits)

-- ---- rows of a list

-- the end of row c, of count rows
pub row_ends : (c k count : ℕ) → c < count → c * k + k ≤ count * k
row_ends c k count h = omega (arith, N.mul-le-mul_right k h)

pub length_row : (k c : ℕ) (b : List ℕ) → c * k + k ≤ length b → length (row k b c) ≡ k
unfolding row part
length_row k c b h = simp (length-take, length-drop) (omega arith)

pub bytes_row : (k c : ℕ) (b : List ℕ) → All Byte b → All Byte (row k b c)
unfolding row part
bytes_row k c b h = all_take Byte k (drop (c * k) b) (all_drop Byte (c * k) b h)

-- place q of row c
pub get_d_row : (k c q : ℕ) (b : List ℕ) → q < k → get_or (row k b c) q 0 ≡ get_or b (c * k + q) 0
unfolding row part
get_d_row k c q b h = get_or-take k (drop (c * k) b) q 0 h ∙ get_or-drop (c * k) b q 0

-- place p is in row p / k
pub cell_row : (k : ℕ) (b : List ℕ) (p : ℕ) → 0 < k → get_or b p 0 ≡ get_or (row k b (p / k)) (p % k) 0
cell_row k b p h = ap (λ (i : ℕ). get_or b i 0) (sym (N.div-add-mod' p k)) ∙ sym (get_d_row k (p / k) (p % k) b (N.mod-lt p h))

-- two lists with the same count rows have the same bytes there
pub same_cells : (k count : ℕ) (b d : List ℕ) → 0 < k → ((c : ℕ) → c < count → row k b c ≡ row k d c)
    → (p : ℕ) → p < count * k → get_or b p 0 ≡ get_or d p 0
same_cells k count b d h e p g =
    cell_row k b p h ∙ ap (λ (r : List ℕ). get_or r (p % k) 0) (e (p / k) ((N.div-lt_iff_lt-mul h).1 g)) ∙ sym (cell_row k d p h)
