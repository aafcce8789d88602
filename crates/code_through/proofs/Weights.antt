-- Sums of weighted bytes: the coefficients of the row that takes given values at the points.
-- Assumes nothing.
use mathlib.Core.Path.{◌≡◌, refl, sym, ap, ap₂, ◌∙◌, subst}
use mathlib.Core.Logic.{◌≢◌, ◌⊎◌, inl, inr, ⊎_elim}
use mathlib.Core.List.{List, [], ◌∷◌, ◌++◌}
use Prim.Native.Nat.{ℕ, zero, suc, ◌+◌, ◌-◌, ◌<◌, ◌≤◌}
use native.Mathlib.Nat as N
use native.Mathlib.Omega.{arith}
use lib.ListN.{length, get_or, drop, length-drop, length-append, drop_of_length-le, get_or-append, get_or-eq_default}
use lib.Seq.{drop-cons, drop-length, drop_at, get_or-drop}
use Rattle.field.specs.Field.{add, mul}
use Rattle.field.proofs.Laws as L
use Rattle.field.proofs.Powers as W
use Rattle.code.specs.Code.{All, Byte, Apart, value}
use Rattle.code_through.specs.Fits.{Attached}
use Rattle.code_through.proofs.Newton.{newton, Expanded}
use Rattle.code.proofs.Polynomials.{eval, factor, roots, zero≢suc, suc_injective}
use Rattle.code.proofs.Polynomials as P
use Rattle.code.proofs.Editions.{bytes, value_eval}
use Rattle.code.proofs.Horner.{value_none, value_next}
use Rattle.octets.proofs.Walk.{lt_or_le}
use Rattle.code.proofs.Lists.{all_of, distinct_of, all_drop}
use Rattle.code_sum.specs.Sums.{total}
use Rattle.code_sum.proofs.Totals.{total_same, total_zero, total_add, total_mul, total_one}
use Rattle.code_through.specs.Sums.{quot, differences, Master, Scales, Weight}

-- ---- the quotient

quot_eval : (r : ℕ) (cs : List ℕ) → quot r cs ≡ P.quot bytes r cs
unfolding quot P.quot
quot_eval r [] = refl
quot_eval r (d ∷ ds) = ap₂ ◌∷◌ (value_eval (d ∷ ds) r) (quot_eval r ds)

value_over : (x z : ℕ) (m : List ℕ) → value (quot x (drop (length m) m)) z ≡ 0
unfolding quot value
value_over x z m = ap (λ (l : List ℕ). value (quot x l) z) (drop-length m)

quot_next : (x z : ℕ) (m : List ℕ) (j : ℕ) → 0 < j → j ≤ length m
    → value (quot x (drop (j - 1) m)) z ≡ add (value (drop (j - 1) m) x) (mul z (value (quot x (drop j m)) z))
unfolding quot value
quot_next x z m j h l =
    ap (λ (l : List ℕ). value (quot x l) z) e ∙ ap (λ (l : List ℕ). add (value l x) (mul z (value (quot x (drop j m)) z))) (sym e)
  where
    back : suc (j - 1) ≡ j
    back = omega arith

    e : drop (j - 1) m ≡ get_or m (j - 1) 0 ∷ drop j m
    e = drop-cons m (j - 1) 0 (omega arith) ∙ ap (λ (i : ℕ). get_or m (j - 1) 0 ∷ drop i m) back

-- low has the values at the points of the coefficients from i on, ds those of their quotients
abbrev pub Sloped : List ℕ → List ℕ → ℕ → List ℕ → List ℕ → Type 0
Sloped xs m i low ds =
    (j : ℕ) → j < length xs → (get_or low j 0 ≡ value (drop i m) (get_or xs j 0)) × (get_or ds j 0 ≡ value (quot (get_or xs j 0) (drop i m)) (get_or xs j 0))

pub sloped_start : (xs m low ds : List ℕ) → length m ≡ suc (length xs) → ((j : ℕ) → j < length xs → get_or low j 0 ≡ 0)
    → ((j : ℕ) → j < length xs → get_or ds j 0 ≡ 0) → Sloped xs m (suc (length xs)) low ds
sloped_start xs m low ds l zl zd j h =
    let x = get_or xs j 0 in
    (zl j h ∙ sym (value_none m x) ∙ ap (λ (i : ℕ). value (drop i m) x) l, zd j h ∙ sym (value_over x x m) ∙ ap (λ (i : ℕ). value (quot x (drop i m)) x) l)

pub sloped_next : (xs m : List ℕ) (i : ℕ) (low ds low' ds' : List ℕ) → length m ≡ suc (length xs) → i ≤ length xs → Sloped xs m (suc i) low ds
    → ((j : ℕ) → j < length xs → (get_or low' j 0 ≡ add (get_or m i 0) (mul (get_or xs j 0) (get_or low j 0)))
    × (get_or ds' j 0 ≡ add (get_or low' j 0) (mul (get_or xs j 0) (get_or ds j 0)))) → Sloped xs m i low' ds'
sloped_next xs m i low ds low' ds' l h S d j b =
    let x = get_or xs j 0 in
    let back : suc i - 1 ≡ i = omega arith in
    let e = (d j b).0 ∙ ap (λ (v : ℕ). add (get_or m i 0) (mul x v)) (S j b).0 ∙ sym (rw back at (value_next m x (suc i) (omega arith) (omega arith))) in
    (e, (d j b).1 ∙ ap₂ (λ (u v : ℕ). add u (mul x v)) e (S j b).1 ∙ sym (rw back at (quot_next x x m (suc i) (omega arith) (omega arith))))

get_d_quot : (x : ℕ) (cs : List ℕ) (i : ℕ) → i < length cs → get_or (quot x cs) i 0 ≡ value (drop i cs) x
unfolding quot
get_d_quot x [] i h = absurd (omega arith)
get_d_quot x (d ∷ ds) zero h = refl
get_d_quot x (d ∷ ds) (suc i) h = get_d_quot x ds i (omega arith)

-- the sum of the quotients, each times a factor, has the sums of their coefficients
pub value_sum : (e x : ℕ → ℕ) (n z : ℕ) (cs r : List ℕ) → length r ≡ length cs
    → ((i : ℕ) → i < length cs → get_or r i 0 ≡ total (λ j. mul (e j) (value (drop i cs) (x j))) n)
    → value r z ≡ total (λ j. mul (e j) (value (quot (x j) cs) z)) n
unfolding value quot
value_sum e x n z [] [] l h = sym (total_zero (λ j. mul (e j) 0) n (λ j b. L.zero_mul_r (e j)))
value_sum e x n z [] (a ∷ r) l h = absurd (zero≢suc (sym l))
value_sum e x n z (d ∷ ds) [] l h = absurd (zero≢suc l)
value_sum e x n z (d ∷ ds) (a ∷ r) l h =
    ap₂ (λ (p q : ℕ). add p (mul z q)) (h 0 (omega arith)) (value_sum e x n z ds r (suc_injective l) (λ i b. h (suc i) (omega arith)))
    ∙ ap (add (total (λ j. mul (e j) (value (d ∷ ds) (x j))) n)) (total_mul z (λ j. mul (e j) (value (quot (x j) ds) z)) n)
    ∙ total_add (λ j. mul (e j) (value (d ∷ ds) (x j))) (λ j. mul z (mul (e j) (value (quot (x j) ds) z))) n
    ∙ total_same (λ j. add (mul (e j) (value (d ∷ ds) (x j))) (mul z (mul (e j) (value (quot (x j) ds) z))))
    (λ j. mul (e j) (add (value (d ∷ ds) (x j)) (mul z (value (quot (x j) ds) z)))) n
    (λ j b. ap (add (mul (e j) (value (d ∷ ds) (x j)))) (L.mul_left_comm z (e j) (value (quot (x j) ds) z))
    ∙ sym (L.mul_add (e j) (value (d ∷ ds) (x j)) (mul z (value (quot (x j) ds) z))))

-- M(z) - M(r) = (z - r) Q(z)
split : (m : List ℕ) → 0 < length m → (z r : ℕ) → add (value m z) (value m r) ≡ mul (add z r) (value (quot r (drop 1 m)) z)
split m h z r =
    ap₂ add (value_eval m z ∙ ap (λ (l : List ℕ). eval bytes l z) whole) (value_eval m r ∙ ap (λ (l : List ℕ). eval bytes l r) whole)
    ∙ factor bytes z r (get_or m 0 0) (drop 1 m)
    ∙ ap (mul (add z r)) (ap (λ (l : List ℕ). eval bytes l z) (sym (quot_eval r (drop 1 m))) ∙ sym (value_eval (quot r (drop 1 m)) z))
  where
    whole : m ≡ get_or m 0 0 ∷ drop 1 m
    whole = drop-cons m 0 0 h

value_lt : (l : List ℕ) (z : ℕ) → All Byte l → value l z < 256
value_lt l z h = subst (λ (v : ℕ). v < 256) (sym (value_eval l z)) (P.ok_eval bytes l z h)

quot_bytes : (m : List ℕ) (r : ℕ) → ((i : ℕ) → get_or m i 0 < 256) → All Byte (quot r (drop 1 m))
quot_bytes m r h =
    subst (All Byte) (sym (quot_eval r (drop 1 m))) (P.ok_quot bytes r (drop 1 m) (all_drop Byte 1 m (all_of Byte m (λ i b. h i))))

-- away from a root r of m the quotient by X - r is m's own value times the inverse i of the difference
pub slope_off : (m : List ℕ) → 0 < length m → ((i : ℕ) → get_or m i 0 < 256) → (r z i : ℕ) → value m r ≡ 0 → mul (add z r) i ≡ 1
    → mul (value m z) i ≡ value (quot r (drop 1 m)) z
slope_off m h small r z i root one =
    let q = value (quot r (drop 1 m)) z in
    let e : value m z ≡ mul (add z r) q = sym (L.add_zero (value m z)) ∙ ap (add (value m z)) (sym root) ∙ split m h z r in
    ap (λ (v : ℕ). mul v i) e ∙ L.mul_assoc (add z r) q i
    ∙ L.divided q (add z r) i (value_lt (quot r (drop 1 m)) z (quot_bytes m r small)) one

same_or_not : (a b : ℕ) → (a ≡ b) ⊎ (a ≢ b)
same_or_not a b = ⊎_elim (λ l. inr (λ e. omega arith)) (λ l. ⊎_elim (λ e. inl (sym e)) (λ h. inr (λ e. omega arith)) (N.eq-or-lt_of_le l)) (lt_or_le a b)

-- the weight of a point, from the products p of the others and o for the point itself
pub weighed_point : (x z d at i p o w : ℕ) → w ≡ add p o → p ≡ mul d (mul at i) → (x ≡ z → o ≡ 1) → ((x ≡ z → ⊥) → o ≡ 0) → Weight x z d at i w
weighed_point x z d at i p o w q e one none = record {
  away = λ n. q ∙ ap₂ add e (none n) ∙ L.add_zero (mul d (mul at i));
  here = λ s t. q ∙ ap₂ add (e ∙ ap (λ (v : ℕ). mul d (mul v i)) t ∙ ap (mul d) (L.zero_mul_l i) ∙ L.zero_mul_r d) (one s) ∙ L.zero_add 1;
}

-- the weight of point j at z
pub weight_value : (xs m ds : List ℕ) (z j i w : ℕ) → Master xs m → Scales xs m ds → j < length xs → (0 < add z (get_or xs j 0) → mul (add z (get_or xs j 0)) i ≡ 1)
    → Weight (get_or xs j 0) z (get_or ds j 0) (differences xs z) i w → w ≡ mul (get_or ds j 0) (value (quot (get_or xs j 0) (drop 1 m)) z)
weight_value xs m ds z j i w M S h inv W =
    ⊎_elim
    (λ e. W.here e (sym (M.all z) ∙ ap (value m) (sym e) ∙ M.root j h) ∙ sym (L.mul_comm d (value (quot x (drop 1 m)) z)
    ∙ ap (λ (z : ℕ). mul (value (quot x (drop 1 m)) z) d) (sym e) ∙ S j h))
    (λ n. W.away n ∙ ap (mul d) (ap (λ (v : ℕ). mul v i) (sym (M.all z))
    ∙ slope_off m (omega (arith, M.size)) M.small x z i (M.root j h) (inv (L.apart z x (λ e. n (sym e))))))
    (same_or_not x z)
  where
    x : ℕ
    x = get_or xs j 0

    d : ℕ
    d = get_or ds j 0

-- ---- the product of all X - x, and its quotients

module _ (xs m : List ℕ) (M : Master xs m) (apart : Apart xs) (small : (i : ℕ) → get_or xs i 0 < 256) (bytes_m : (i : ℕ) → get_or m i 0 < 256) where
  abbrev pub x : ℕ → ℕ
  x j = get_or xs j 0

  whole : m ≡ get_or m 0 0 ∷ drop 1 m
  whole = drop-cons m 0 0 (omega (arith, M.size))

  length_cs : length (drop 1 m) ≡ length xs
  length_cs = length-drop 1 m ∙ short M.size
    where
      short : {a b : ℕ} → a ≡ suc b → a - 1 ≡ b
      short e = omega arith

  ok : (r : ℕ) → All Byte (quot r (drop 1 m))
  ok r = quot_bytes m r bytes_m

  -- the quotient at the other points
  other : (i j : ℕ) → i < length xs → j < length xs → x j ≢ x i → value (quot (x j) (drop 1 m)) (x i) ≡ 0
  other i j hi hj n =
      W.cancel (add (x i) (x j)) (value (quot (x j) (drop 1 m)) (x i)) (L.apart (x i) (x j) (λ e. n (sym e))) (L.add_lt (x i) (x j) (small i) (small j))
      (value_lt (quot (x j) (drop 1 m)) (x i) (ok (x j)))
      (sym (split m (omega (arith, M.size)) (x i) (x j)) ∙ ap₂ add (M.root i hi) (M.root j hj) ∙ L.add_self 0)

  distinct : (i j : ℕ) → i < length xs → j < length xs → j ≢ i → x j ≢ x i
  distinct i j hi hj n e =
      ⊎_elim (λ l. apart j i l hi e) (λ l. apart i j (strict l n) hj (sym e)) (lt_or_le j i)
    where
      strict : {a b : ℕ} → a ≤ b → b ≢ a → a < b
      strict l n = ⊎_elim (λ e. absurd (n (sym e))) (λ h. h) (N.eq-or-lt_of_le l)

  -- the highest coefficient of each quotient is 1, so it is not zero at its own point
  last : (r : ℕ) (n : ℕ) → length xs ≡ suc n → get_or (quot r (drop 1 m)) n 0 ≡ 1
  unfolding value
  last r n e =
      get_d_quot r (drop 1 m) n (omega (arith, length_cs)) ∙ ap (λ (l : List ℕ). value l r) (drop-cons (drop 1 m) n 0 (omega (arith, length_cs)))
      ∙ ap₂ (λ (t : ℕ) (l : List ℕ). add t (mul r (value l r))) (get_or-drop 1 m n 0 ∙ ap (λ (i : ℕ). get_or m i 0) at ∙ M.top)
      (drop_of_length-le (drop 1 m) over)
      ∙ simp (L.zero_mul_r, L.add_zero)
    where
      over : length (drop 1 m) ≤ suc n
      over = omega (arith, length_cs)

      at : 1 + n ≡ length xs
      at = omega arith

  get_d_zeros : (l : List ℕ) (i : ℕ) → All (λ (a : ℕ). a ≡ 0) l → get_or l i 0 ≡ 0
  get_d_zeros [] i h = refl
  get_d_zeros (a ∷ l) zero h = h.0
  get_d_zeros (a ∷ l) (suc i) h = get_d_zeros l i h.1

  pub nonzero : (j : ℕ) → j < length xs → value (quot (x j) (drop 1 m)) (x j) ≢ 0
  nonzero j h z =
      let e : length xs ≡ suc (length xs - 1) = omega arith in
      let q = quot (x j) (drop 1 m) in
      let l : length xs ≡ length q = sym (ap length (quot_eval (x j) (drop 1 m)) ∙ P.length_quot bytes (x j) (drop 1 m) ∙ length_cs) in
      let zs = roots bytes xs q l (distinct_of xs apart) (all_of Byte xs (λ i b. small i)) (ok (x j))
      (all_of (λ (y : ℕ). eval bytes q y ≡ 0) xs (λ i b. sym (value_eval q (x i)) ∙ ⊎_elim (λ (s : i ≡ j). subst (λ (i : ℕ). value q (x i) ≡ 0) (sym s) z)
      (λ n. other i j b h (distinct i j b h (λ s. n (sym s)))) (same_or_not i j))) in
      one≢zero (sym (last (x j) (length xs - 1) e) ∙ get_d_zeros q (length xs - 1) zs)
    where
      one≢zero : ◌≡◌ {A = ℕ} 1 0 → ⊥
      one≢zero e = omega arith

  -- ---- the row whose coefficients are the weighed sums takes the values

  module _ (ds : List ℕ) (S : Scales xs m ds) (y : ℕ → ℕ) (small_y : (j : ℕ) → y j < 256) (r : List ℕ) (size : length r ≡ length xs)
      (sums : (i : ℕ) → i < length xs → get_or r i 0 ≡ total (λ j. mul (mul (get_or ds j 0) (value (drop (suc i) m) (x j))) (y j)) (length xs)) where
    abbrev pub e : ℕ → ℕ
    e j = mul (get_or ds j 0) (y j)

    by_factors : (i : ℕ) → i < length (drop 1 m) → get_or r i 0 ≡ total (λ j. mul (e j) (value (drop i (drop 1 m)) (x j))) (length xs)
    by_factors i h =
        sums i (omega (arith, length_cs))
        ∙ total_same (λ j. mul (mul (get_or ds j 0) (value (drop (suc i) m) (x j))) (y j)) (λ j. mul (e j) (value (drop i (drop 1 m)) (x j))) (length xs)
        (λ j b. swap (get_or ds j 0) (value (drop (suc i) m) (x j)) (y j) ∙ ap (λ (l : List ℕ). mul (mul (get_or ds j 0) (y j)) (value l (x j))) (later i))
      where
        swap : (d v y : ℕ) → mul (mul d v) y ≡ mul (mul d y) v
        swap d v y = L.mul_assoc d v y ∙ ap (mul d) (L.mul_comm v y) ∙ sym (L.mul_assoc d y v)

        later : (i : ℕ) → drop (suc i) m ≡ drop i (drop 1 m)
        later i = ap (drop (suc i)) whole ∙ ap (drop i) (sym (ap (drop 1) whole))

    pub values : (z : ℕ) → value r z ≡ total (λ j. mul (e j) (value (quot (x j) (drop 1 m)) z)) (length xs)
    values z = value_sum e x (length xs) z (drop 1 m) r (size ∙ sym length_cs) by_factors

    pub takes : (i : ℕ) → i < length xs → value r (get_or xs i 0) ≡ y i
    takes i h =
        values (x i)
        ∙ total_one (λ j. mul (e j) (value (quot (x j) (drop 1 m)) (x i))) (length xs) i h
        (λ j b n. ap (mul (e j)) (other i j h b (distinct i j h b n)) ∙ L.zero_mul_r (e j))
        ∙ own (get_or ds i 0) (y i) (value (quot (x i) (drop 1 m)) (x i)) (small_y i) (S i h)
      where
        own : (d y v : ℕ) → y < 256 → mul v d ≡ 1 → mul (mul d y) v ≡ y
        own d y v h o = L.mul_comm (mul d y) v ∙ sym (L.mul_assoc v d y) ∙ ap (λ (p : ℕ). mul p y) o ∙ L.one_mul_l y h

-- ---- the product of all X - x

-- over the points from j on
pub differences_none : (ps : List ℕ) (z : ℕ) → differences (drop (length ps) ps) z ≡ 1
unfolding differences
differences_none ps z = ap (λ (l : List ℕ). differences l z) (drop-length ps)

pub differences_next : (ps : List ℕ) (z j : ℕ) → 0 < j → j ≤ length ps → differences (drop (j - 1) ps) z ≡ mul (add z (get_or ps (j - 1) 0)) (differences (drop j ps) z)
unfolding differences
differences_next ps z j h l =
    let back : suc (j - 1) ≡ j = omega arith in
    ap (λ (l : List ℕ). differences l z) (drop-cons ps (j - 1) 0 (omega arith) ∙ ap (λ (i : ℕ). get_or ps (j - 1) 0 ∷ drop i ps) back)

-- it vanishes at its points
pub differences_root : (ps : List ℕ) (i : ℕ) → i < length ps → differences ps (get_or ps i 0) ≡ 0
unfolding differences
differences_root [] i h = absurd (omega arith)
differences_root (p ∷ ps) zero h = ap (λ (d : ℕ). mul d (differences ps p)) (L.add_self p) ∙ L.zero_mul_l (differences ps p)
differences_root (p ∷ ps) (suc i) h = ap (mul (add (get_or ps i 0) p)) (differences_root ps i (omega arith)) ∙ L.zero_mul_r (add (get_or ps i 0) p)

-- the Newton form with the coefficients 0, .. 0, 1
pub newton_differences : (ps r : List ℕ) (z : ℕ) → length r ≡ suc (length ps) → ((j : ℕ) → j < length ps → get_or r j 0 ≡ 0) → get_or r (length ps) 0 ≡ 1
    → newton (ps ++ 0 ∷ []) r z ≡ differences ps z
unfolding newton differences
newton_differences [] [] z l h t = absurd (zero≢suc l)
newton_differences [] (a ∷ r) z l h t = ap (λ (a : ℕ). add a (mul (add z 0) 0)) t ∙ ap (add 1) (L.zero_mul_r (add z 0)) ∙ L.add_zero 1
newton_differences (p ∷ ps) [] z l h t = absurd (zero≢suc l)
newton_differences (p ∷ ps) (a ∷ r) z l h t =
    ap₂ (λ (a n : ℕ). add a (mul (add z p) n)) (h 0 (omega arith)) (newton_differences ps r z (suc_injective l) (λ j b. h (suc j) (omega arith)) t)
    ∙ L.zero_add (mul (add z p) (differences ps z))

module _ (ps old : List ℕ) (size : length old ≡ suc (length ps)) where
  pub longer : length (ps ++ 0 ∷ []) ≡ length old
  longer = simp length-append (omega arith)

  pub point : (i : ℕ) → i < length ps → get_or (ps ++ 0 ∷ []) i 0 ≡ get_or ps i 0
  point i h = get_or-append ps (0 ∷ []) 0 i h

  pub master_start : Expanded (ps ++ 0 ∷ []) old old (length ps)
  unfolding value newton
  master_start = record {
    size = refl;
    kept = λ i h. refl;
    same = λ z. ap (λ (l : List ℕ). value l z) last ∙ sym (ap₂ (λ (p c : List ℕ). newton p c z) (drop_at ps (0 ∷ []) (length ps) refl) last
        ∙ ap (add (get_or old (length ps) 0)) (L.zero_mul_r (add z 0) ∙ sym (L.zero_mul_r z)));
  }
    where
      none : length old ≤ suc (length ps)
      none = omega arith

      last : drop (length ps) old ≡ get_or old (length ps) 0 ∷ []
      last = drop-cons old (length ps) 0 (omega arith) ∙ ap (◌∷◌ (get_or old (length ps) 0)) (drop_of_length-le old none)

  pub master_top : (x j : ℕ) (row new : List ℕ) → j < length ps → length row ≡ length old → Attached x j row new → get_or row (length ps) 0 ≡ 1 → get_or new (length ps) 0 ≡ 1
  master_top x j row new h l a t =
      a.each (length ps) (omega arith) (omega arith)
      ∙ ap₂ (λ (u v : ℕ). add u (mul x v)) t (get_or-eq_default row 0 over) ∙ simp (L.zero_mul_r, L.add_zero)
    where
      over : length row ≤ length ps + 1
      over = omega arith
