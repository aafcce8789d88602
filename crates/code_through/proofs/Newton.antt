-- From the Newton form to the powers, in place.
-- Assumes nothing.
use mathlib.Core.Path.{◌≡◌, refl, sym, ap, ap₂, ◌∙◌}
use mathlib.Core.List.{List, [], ◌∷◌}
use Prim.Native.Nat.{ℕ, zero, suc, ◌+◌, ◌<◌}
use native.Mathlib.Nat as N
use native.Mathlib.Numerals.{add-one}
use native.Mathlib.Omega.{arith}
use lib.ListN.{length, get_or, drop, length-drop}
use lib.Seq.{drop-cons, ext_get_or, get_or-drop}
use Rattle.field.specs.Field.{add, mul}
use Rattle.field.proofs.Laws.{add_zero, zero_mul_r}
use Rattle.code.specs.Code.{value}
use Rattle.code_through.specs.Fits.{Attached}
use Rattle.code.proofs.Polynomials.{eval_attach}
use Rattle.code.proofs.Polynomials as P
use Rattle.code.proofs.Editions.{bytes, value_eval}

-- the value at z of the Newton form: c0 + (z - x0) (c1 + (z - x1) (c2 + ..))
unfoldable pub newton : List ℕ → List ℕ → ℕ → ℕ
newton [] cs z = 0
newton (x ∷ xs) [] z = 0
newton (x ∷ xs) (c ∷ cs) z = add c (mul (add z x) (newton xs cs z))

get_d_attach : (x y : ℕ) (q : List ℕ) (i : ℕ) → i < suc (length q) → get_or (P.attach bytes x y q) i 0 ≡ add (get_or (y ∷ q) i 0) (mul x (get_or (y ∷ q) (suc i) 0))
unfolding P.attach
get_d_attach x y [] zero h = sym (ap (add y) (zero_mul_r x) ∙ add_zero y)
get_d_attach x y [] (suc i) h = absurd (omega arith)
get_d_attach x y (d ∷ ds) zero h = refl
get_d_attach x y (d ∷ ds) (suc i) h = get_d_attach x d ds i (omega arith)

-- from j on the row holds the powers of the Newton form from j on, and before j it is as it was
pub record Expanded (ps old row : List ℕ) (j : ℕ) : Type 0 where
  pub size : length row ≡ length old
  pub kept : (i : ℕ) → i < j → get_or row i 0 ≡ get_or old i 0
  pub same : (z : ℕ) → value (drop j row) z ≡ newton (drop j ps) (drop j old) z

module _ (ps old row new : List ℕ) (m : ℕ) (size : length ps ≡ length old) (e : Expanded ps old row (suc m)) (same : length new ≡ length row) (h : m < length row)
    (a : Attached (get_or ps m 0) m row new) where
  x : ℕ
  x = get_or ps m 0

  y : ℕ
  y = get_or row m 0

  list : drop m new ≡ P.attach bytes x y (drop (suc m) row)
  unfolding x y
  list =
      ext_get_or 0 (drop m new) (P.attach bytes x y (drop (suc m) row))
      (simp (length-drop, P.length_attach bytes) (omega arith))
      (λ i g. get_or-drop m new i 0 ∙ a.each (m + i) (omega arith) (omega (arith, length-drop m new))
      ∙ ap₂ (λ (p q : ℕ). add p (mul x q)) (cell i) (ap (λ (k : ℕ). get_or row k 0) (N.add_assoc m i 1 ∙ ap (λ (k : ℕ). m + k) (add-one i)) ∙ cell (suc i))
      ∙ sym (get_d_attach x y (drop (suc m) row) i (omega (arith, length-drop m new, length-drop (suc m) row))))
    where
      cell : (i : ℕ) → get_or row (m + i) 0 ≡ get_or (get_or row m 0 ∷ drop (suc m) row) i 0
      cell i = sym (get_or-drop m row i 0) ∙ ap (λ (l : List ℕ). get_or l i 0) (drop-cons row m 0 h)

  pub expanded_next : Expanded ps old new m
  unfolding newton x y
  expanded_next = record {
    size = same ∙ e.size;
    kept = λ i g. a.kept i g ∙ e.kept i (omega arith);
    same = λ z. ap (λ (l : List ℕ). value l z) list ∙ value_eval (P.attach bytes x y (drop (suc m) row)) z ∙ eval_attach bytes x y (drop (suc m) row) z
        ∙ ap (λ (v : ℕ). add y (mul (add z x) v)) (sym (value_eval (drop (suc m) row) z) ∙ e.same z)
        ∙ ap (λ (c : ℕ). add c (mul (add z x) (newton (drop (suc m) ps) (drop (suc m) old) z))) (e.kept m (omega arith))
        ∙ sym (ap₂ (λ (p c : List ℕ). newton p c z) (drop-cons ps m 0 (omega (arith, e.size))) (drop-cons old m 0 (omega (arith, e.size))));
  }
