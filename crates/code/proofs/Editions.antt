-- The polynomials over bytes: any k fragments determine the row, in both editions of the code.
-- Assumes nothing.
use mathlib.Core.Path.{◌≡◌, refl, sym, ap, ap₂, ◌∙◌}
use mathlib.Core.Logic.{◌≢◌}
use mathlib.Core.List.{List, [], ◌∷◌, map}
use Prim.Native.Nat.{ℕ, zero, suc, ◌+◌, ◌<◌, ◌≤◌}
use native.Mathlib.Nat as N
use native.Mathlib.Omega.{arith}
use lib.ListN.{length}
use Rattle.field.specs.Field as G
use Rattle.field.proofs.Laws as L
use Rattle.field.specs.Tables.{inverse}
use Rattle.field.proofs.Powers as P
use Rattle.code.specs.Code.{All, Byte, value, numbers_from, Through}
use Rattle.code.proofs.Polynomials.{Field, Distinct, eval, unique, interp, interp_at, length_interp, ok_interp}

abbrev pub bytes : Field ℕ
bytes = record {
  Ok = Byte;
  add = G.add;
  mul = G.mul;
  inv = inverse;
  𝟘 = 0;
  𝟙 = 1;
  add_assoc = L.add_assoc;
  add_comm = L.add_comm;
  zero_add = L.zero_add;
  add_self = L.add_self;
  mul_assoc = L.mul_assoc;
  mul_comm = L.mul_comm;
  mul_add = L.mul_add;
  mul_zero = L.zero_mul_r;
  one_mul = L.one_mul_l;
  mul_inv = λ a h n. P.mul_inverse a (N.pos_of_ne-zero n) h;
  ok_zero = omega arith;
  ok_add = λ a b. L.add_lt a b;
  ok_mul = L.mul_lt;
}

pub value_eval : (cs : List ℕ) (x : ℕ) → value cs x ≡ eval bytes cs x
unfolding value eval
value_eval [] x = refl
value_eval (c ∷ cs) x = ap (λ (e : ℕ). G.add c (G.mul x e)) (value_eval cs x)

pub map_same : (f g : ℕ → ℕ) → ((z : ℕ) → f z ≡ g z) → (l : List ℕ) → map f l ≡ map g l
map_same f g h [] = refl
map_same f g h (x ∷ l) = ap₂ ◌∷◌ (h x) (map_same f g h l)

pub values_eval : (cs xs : List ℕ) → map (value cs) xs ≡ map (eval bytes cs) xs
values_eval cs xs = map_same (value cs) (eval bytes cs) (value_eval cs) xs

-- ---- the numbers 1 to k are different bytes

pub length_count : (i n : ℕ) → length (numbers_from i n) ≡ n
unfolding numbers_from
length_count i zero = refl
length_count i (suc n) = ap suc (length_count (suc i) n)

pub bytes_count : (i n : ℕ) → i + n ≤ 256 → All Byte (numbers_from i n)
unfolding numbers_from
bytes_count i zero h = tt
bytes_count i (suc n) h = (omega arith, bytes_count (suc i) n (omega arith))

later : (x i n : ℕ) → x < i → All (λ (y : ℕ). x ≢ y) (numbers_from i n)
unfolding numbers_from
later x i zero h = tt
later x i (suc n) h = ((λ e. omega arith), later x (suc i) n (omega arith))

pub distinct_count : (i n : ℕ) → Distinct (numbers_from i n)
unfolding numbers_from
distinct_count i zero = tt
distinct_count i (suc n) = (later i (suc i) n (omega arith), distinct_count (suc i) n)

-- ---- an edition of the code: which polynomial a row stands for, and how the row is read off it

pub record Edition (k : ℕ) : Type 0 where
  pub poly : List ℕ → List ℕ
  pub read : List ℕ → List ℕ
  pub size : (r : List ℕ) → length r ≡ k → length (poly r) ≡ k
  pub okay : (r : List ℕ) → All Byte r → All Byte (poly r)
  pub same : (r : List ℕ) → length r ≡ k → All Byte r → read (poly r) ≡ r

-- fragments at k different elements determine the row
pub determined : (k : ℕ) (E : Edition k) (xs r s : List ℕ) → length xs ≡ k → Distinct xs → All Byte xs
    → length r ≡ k → length s ≡ k → All Byte r → All Byte s → map (value (E.poly r)) xs ≡ map (value (E.poly s)) xs → r ≡ s
determined k E xs r s lx d hx lr ls hr hs e =
    sym (E.same r lr hr) ∙ ap E.read
    (unique bytes xs (E.poly r) (E.poly s) (lx ∙ sym (E.size r lr)) (E.size r lr ∙ sym (E.size s ls)) d hx (E.okay r hr) (E.okay s hs)
    (sym (values_eval (E.poly r) xs) ∙ e ∙ values_eval (E.poly s) xs))
    ∙ E.same s ls hs

-- the first edition: the row's bytes are the coefficients
unfoldable pub first : (k : ℕ) → Edition k
first k = record { poly = λ r. r; read = λ r. r; size = λ r l. l; okay = λ r h. h; same = λ r l h. refl }

-- the second edition: the row's bytes are the values at 1 .. k
module _ (k : ℕ) (small : k ≤ 255) where
  xs : List ℕ
  xs = numbers_from 1 k

  lx : (r : List ℕ) → length r ≡ k → length xs ≡ length r
  unfolding xs
  lx r l = length_count 1 k ∙ sym l

  at : (r : List ℕ) → length r ≡ k → All Byte r → map (eval bytes (interp bytes xs r)) xs ≡ r
  unfolding xs
  at r l h = interp_at bytes (numbers_from 1 k) r (lx r l) (distinct_count 1 k) (bytes_count 1 k (omega arith)) h

  pub second : Edition k
  unfolding xs
  second = record {
    poly = interp bytes xs;
    read = λ p. map (value p) xs;
    size = λ r l. length_interp bytes xs r (lx r l) ∙ lx r l ∙ l;
    okay = λ r h. ok_interp bytes xs r h;
    same = λ r l h. values_eval (interp bytes xs r) xs ∙ at r l h;
  }

  -- it is the one polynomial through the row
  pub second_through : (r : List ℕ) → length r ≡ k → All Byte r → Through r (second.poly r)
  unfolding second xs
  second_through r l h = record {
    size = length_interp bytes xs r (lx r l) ∙ lx r l;
    bytes = ok_interp bytes xs r h;
    takes = ap (λ (n : ℕ). map (value (interp bytes xs r)) (numbers_from 1 n)) l ∙ values_eval (interp bytes xs r) xs ∙ at r l h;
  }

  pub second_only : (r p : List ℕ) → length r ≡ k → All Byte r → Through r p → p ≡ second.poly r
  unfolding second xs
  second_only r p l h t =
      unique bytes xs p (interp bytes xs r) (lx r l ∙ sym t.size) (t.size ∙ sym (length_interp bytes xs r (lx r l) ∙ lx r l)) (distinct_count 1 k)
      (bytes_count 1 k (omega arith)) t.bytes (ok_interp bytes xs r h)
      (sym (values_eval p xs) ∙ ap (λ (n : ℕ). map (value p) (numbers_from 1 n)) (sym l) ∙ t.takes ∙ sym (at r l h))
