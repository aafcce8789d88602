-- Columns of rows of k bytes.
-- Assumes nothing.
use mathlib.Core.Path.{◌≡◌, sym, ap, ◌∙◌, subst}
use mathlib.Core.Logic.{⊎_elim}
use mathlib.Core.List.{List}
use Prim.Native.Nat.{ℕ, suc, ◌+◌, ◌-◌, ◌*◌, ◌/◌, ◌%◌, ◌<◌, ◌≤◌}
use native.Mathlib.Nat as N
use native.Mathlib.Omega.{arith}
use lib.Arith.{digits_div, digits_mod}
use lib.ListN.{length, get_or, set, take, drop, drop_of_length-le}
use lib.Seq.{get_or-set_same, get_or-set_other, get_or-take, length-take-le, drop-cons}
use borrow.Author.Count.{below_more}
use Rattle.octets.proofs.Walk.{lt_or_le}
use Rattle.field.specs.Field.{add, mul}
use Rattle.field.proofs.Laws as L
use Rattle.code.specs.Code.{Byte, Apart, value, row}
use Rattle.code_sum.specs.Sums.{cell, total, weighed}
use Rattle.code_sum.proofs.Totals.{total_same, total_lt}
use Rattle.code_sum.proofs.Weighing.{place_cell}
use Rattle.code_through.specs.Fits.{Fit, Wrote}
use Rattle.code.proofs.Lists.{all_of, map_at}
use Rattle.code_through.proofs.Rows.{solved, length_row, row_ends, get_d_row}
use Rattle.code_through.proofs.Weights.{takes}
use Rattle.code_through.specs.Sums.{Master, Scales, Weights, Sums, Scattered, Column}

-- a place is in one row and one column
pub same_row : (k a b q m : ℕ) → q < k → m < k → a * k + q ≡ b * k + m → a ≡ b
same_row k a b q m hq hm e = sym (digits_div a hq) ∙ ap (λ (p : ℕ). p / k) e ∙ digits_div b hm

pub same_column : (k a b q m : ℕ) → q < k → m < k → a * k + q ≡ b * k + m → q ≡ m
same_column k a b q m hq hm e = sym (digits_mod a hq) ∙ ap (λ (p : ℕ). p % k) e ∙ digits_mod b hm

-- the place of column m in row c, of count rows
pub inside : (c k m count size : ℕ) → c < count → m < k → count * k ≤ size → c * k + m < size
inside c k m count size h g l = omega (arith, N.mul-le-mul_right k h)

-- one byte more is written
pub scatter_next : (src old out : List ℕ) (k m c i : ℕ) → m < k → (c + i) * k + m < length out → Scattered src k m c i old out
    → Scattered src k m c (i + 1) old (set out ((c + i) * k + m) (get_or src i 0))
scatter_next src old out k m c i hm room w = record {
  each = below_more (λ (j : ℕ). get_or new ((c + j) * k + m) 0 ≡ get_or src j 0) i
      (λ j h. get_or-set_other out at ((c + j) * k + m) (get_or src i 0) 0 (λ e. earlier j h (same_row k (c + i) (c + j) m m hm hm (sym e))) ∙ w.each j h)
      (get_or-set_same out at (get_or src i 0) 0 room);
  before = λ d h. get_or-set_other out at (d * k + m) (get_or src i 0) 0 (λ e. above d h (same_row k (c + i) d m m hm hm (sym e))) ∙ w.before d h;
  other = λ d q h n. get_or-set_other out at (d * k + q) (get_or src i 0) 0 (λ e. n (sym (same_column k (c + i) d m q hm h (sym e)))) ∙ w.other d q h n;
  after = λ p h. get_or-set_other out at p (get_or src i 0) 0 (λ e. past p h (sym e)) ∙ w.after p (under p h);
}
  where
    at : ℕ
    at = (c + i) * k + m

    new : List ℕ
    new = set out ((c + i) * k + m) (get_or src i 0)

    earlier : (j : ℕ) → j < i → c + i ≡ c + j → ⊥
    earlier j h e = omega arith

    above : (d : ℕ) → d < c → c + i ≡ d → ⊥
    above d h e = omega arith

    more : (c + (i + 1)) * k ≡ (c + i) * k + k
    more = ap (λ (r : ℕ). r * k) (sym (N.add_assoc c i 1)) ∙ N.add-mul (c + i) 1 k ∙ ap (λ (r : ℕ). (c + i) * k + r) (N.one-mul k)

    past : (p : ℕ) → (c + (i + 1)) * k ≤ p → (c + i) * k + m ≡ p → ⊥
    past p h e = omega (arith, more)

    under : (p : ℕ) → (c + (i + 1)) * k ≤ p → (c + i) * k ≤ p
    under p h = omega (arith, more)

-- the first n bytes of a list are written
pub scattered_front : {k m c : ℕ} {old new : List ℕ} (n : ℕ) (sum : List ℕ) → n ≤ length sum → Scattered (take n sum) k m c (length (take n sum)) old new
    → Scattered sum k m c n old new
scattered_front n sum h t =
    let e = length-take-le n sum h in record {
      each = λ i b. t.each i (omega arith) ∙ get_or-take n sum i 0 b;
      before = t.before;
      other = t.other;
      after = λ p b. t.after p (rw e b);
    }

-- n rows more are written
pub column_next : (area : List ℕ) (s : ℕ) (xs ws : List ℕ) (k m c n : ℕ) (sum old out new : List ℕ) → Column area s xs ws k m c old out
    → Scattered sum k m c n out new → ((i : ℕ) → i < n → get_or sum i 0 ≡ weighed area s xs ws (c + i) (length xs)) → Column area s xs ws k m (c + n) old new
column_next area s xs ws k m c n sum old out new w t h = record {
  each = λ d g. ⊎_elim (λ b. t.before d b ∙ w.each d b) (λ b. latest d g b) (lt_or_le d c);
  other = λ d q g e. t.other d q g e ∙ w.other d q g e;
  after = λ p g. t.after p g ∙ w.after p (under p g);
}
  where
    latest : (d : ℕ) → d < c + n → c ≤ d → get_or new (d * k + m) 0 ≡ weighed area s xs ws d (length xs)
    latest d g b =
        let e : c + (d - c) ≡ d = omega arith in
        let i : d - c < n = omega arith in
        subst (λ (d : ℕ). get_or new (d * k + m) 0 ≡ weighed area s xs ws d (length xs)) e (t.each (d - c) i ∙ h (d - c) i)

    under : (p : ℕ) → (c + n) * k ≤ p → c * k ≤ p
    under p g = omega (arith, N.add-mul c n k)

-- ---- all columns

-- coefficient q of row c, by weights
unfoldable pub coefficient : List ℕ → ℕ → List ℕ → List ℕ → List ℕ → ℕ → ℕ → ℕ
coefficient area s xs m ds c q = total (λ j. mul (mul (get_or ds j 0) (value (drop (suc q) m) (get_or xs j 0))) (cell area s c (get_or xs j 0))) (length xs)

-- of count rows the columns from i on are written, and nothing after the rows
pub record Filled (area : List ℕ) (s : ℕ) (xs m ds : List ℕ) (count i : ℕ) (old out : List ℕ) : Type 0 where
  pub each : (c q : ℕ) → c < count → i ≤ q → q < length xs → get_or out (c * length xs + q) 0 ≡ coefficient area s xs m ds c q
  pub after : (p : ℕ) → count * length xs ≤ p → get_or out p 0 ≡ get_or old p 0

pub weights_start : (xs m ds ws : List ℕ) → length m ≡ suc (length xs) → length ws ≡ length xs → ((j : ℕ) → j < length ws → get_or ws j 0 ≡ 0)
    → Weights xs m ds (suc (length xs)) ws
unfolding value
weights_start xs m ds ws l n h j b =
    h j (omega arith) ∙ sym (ap (λ (r : List ℕ). mul (get_or ds j 0) (value r (get_or xs j 0))) (drop_of_length-le m (N.le_of_eq l)) ∙ L.zero_mul_r (get_or ds j 0))

pub weights_next : (xs m ds old new : List ℕ) (i : ℕ) → length m ≡ suc (length xs) → i < suc (length xs) → Weights xs m ds (suc i) old
    → ((j : ℕ) → j < length xs → get_or new j 0 ≡ add (mul (get_or ds j 0) (get_or m i 0)) (mul (get_or xs j 0) (get_or old j 0))) → Weights xs m ds i new
unfolding value
weights_next xs m ds old new i l h w a j b =
    a j b ∙ ap (λ (v : ℕ). add (mul (get_or ds j 0) (get_or m i 0)) (mul (get_or xs j 0) v)) (w j b)
    ∙ joined (get_or ds j 0) (get_or xs j 0) (get_or m i 0) (value (drop (suc i) m) (get_or xs j 0))
    ∙ ap (λ (l : List ℕ). mul (get_or ds j 0) (value l (get_or xs j 0))) (sym (drop-cons m i 0 (omega arith)))
  where
    joined : (d x t v : ℕ) → add (mul d t) (mul x (mul d v)) ≡ mul d (add t (mul x v))
    joined d x t v = ap (add (mul d t)) (L.mul_left_comm x d v) ∙ sym (L.mul_add d t (mul x v))

module _ (area : List ℕ) (s : ℕ) (xs m ds : List ℕ) (count : ℕ) (old : List ℕ) where
  pub by_weights : (ws : List ℕ) (q c : ℕ) → Weights xs m ds (suc q) ws → weighed area s xs ws c (length xs) ≡ coefficient area s xs m ds c q
  unfolding weighed coefficient
  by_weights ws q c w =
      total_same (λ j. mul (get_or ws j 0) (cell area s c (get_or xs j 0)))
      (λ j. mul (mul (get_or ds j 0) (value (drop (suc q) m) (get_or xs j 0))) (cell area s c (get_or xs j 0))) (length xs)
      (λ j b. ap (λ (v : ℕ). mul v (cell area s c (get_or xs j 0))) (w j b))

  pub coefficient_lt : (c q : ℕ) → coefficient area s xs m ds c q < 256
  unfolding coefficient
  coefficient_lt c q = total_lt _ (length xs) (λ j. L.mul_lt _ _)

  pub filled_next : (i : ℕ) (ws out new : List ℕ) → i < length xs → Weights xs m ds (suc i) ws → Filled area s xs m ds count (suc i) old out
      → Column area s xs ws (length xs) i count out new → Filled area s xs m ds count i old new
  filled_next i ws out new h w f n = record {
    each = λ c q g b e. ⊎_elim (λ z. subst (λ (q : ℕ). get_or new (c * length xs + q) 0 ≡ coefficient area s xs m ds c q) z (n.each c g ∙ by_weights ws i c w))
        (λ l. n.other c q e (λ z. omega arith) ∙ f.each c q g l e) (N.eq-or-lt_of_le b);
    after = λ p g. n.after p g ∙ f.after p g;
  }

  -- every column is written: each row is the one that gives the fragments
  module _ (M : Master xs m) (apart : Apart xs) (small : (i : ℕ) → get_or xs i 0 < 256) (bytes_m : (i : ℕ) → get_or m i 0 < 256) (S : Scales xs m ds)
      (bytes_a : (i : ℕ) → get_or area i 0 < 256) (out : List ℕ) (room : count * length xs ≤ length out)
      (f : Filled area s xs m ds count 0 old out) where
    size : (c : ℕ) → c < count → length (row (length xs) out c) ≡ length xs
    size c h = length_row (length xs) c out (omega (arith, row_ends c (length xs) count h))

    at : (c q : ℕ) → q < length xs → get_or (row (length xs) out c) q 0 ≡ get_or out (c * length xs + q) 0
    at c q h = get_d_row (length xs) c q out h

    fits : (c : ℕ) → c < count → Fit area s c xs (row (length xs) out c)
    unfolding coefficient cell
    fits c h =
        map_at (value (row (length xs) out c)) (cell area s c) xs
        (takes xs m M apart small bytes_m ds S (λ j. cell area s c (get_or xs j 0)) (λ j. bytes_a _) (row (length xs) out c) (size c h)
        (λ q g. at c q g ∙ f.each c q h (omega arith) g))

    pub filled_rows : Wrote area s xs count old out
    filled_rows = record {
      each = λ c h. solved area s c xs (row (length xs) out c) apart (size c h) (all_of Byte xs (λ i b. small i))
          (all_of Byte (row (length xs) out c) (λ i b. subst (λ (v : ℕ). v < 256) (sym (at c i (omega (arith, size c h)) ∙ f.each c i h (omega arith) (omega (arith, size c h)))) (coefficient_lt c i))) (fits c h);
      after = f.after;
    }

-- ---- other fragments

module _ (area : List ℕ) (s : ℕ) (xs ws : List ℕ) (z c n : ℕ) (sum : List ℕ) (from : ℕ) (at : from ≡ (z - 1) * s + c)
    (w : (i : ℕ) → i < n → get_or sum i 0 ≡ weighed area s xs ws (c + i) (length xs)) where
  there : (i : ℕ) → get_or area (from + i) 0 ≡ cell area s (c + i) z
  there i = ap (λ (p : ℕ). get_or area (p + i) 0) at ∙ place_cell area s c i z

  pub sums_next : ((i : ℕ) → i < n → get_or sum i 0 ≡ get_or area (from + i) 0) → ((d : ℕ) → d < c → Sums area s xs ws z d) → (d : ℕ) → d < c + n → Sums area s xs ws z d
  sums_next h f d g =
      ⊎_elim (f d) (λ l. let e : c + (d - c) ≡ d = omega arith in
      let i : d - c < n = omega arith in
      subst (Sums area s xs ws z) e (sym (w (d - c) i) ∙ h (d - c) i ∙ there (d - c))) (lt_or_le d c)

  pub sums_back : ((d : ℕ) → d < c + n → Sums area s xs ws z d) → (i : ℕ) → i < n → get_or sum i 0 ≡ get_or area (from + i) 0
  sums_back f i h = w i h ∙ f (c + i) (omega arith) ∙ sym (there i)
