-- `upto` and `past` by the place of the first c; words one after the other.
use mathlib.Core.Path.{◌≡◌, refl, sym, ap, ◌∙◌}
use Prim.Native.Nat.{ℕ, zero, suc, ◌+◌, ◌-◌, ◌≤◌}
use mathlib.Core.List.{List, [], ◌∷◌}
use mathlib.Core.Bool.{Bool, true, false, not, cond}
use native.Mathlib.Omega.{arith}
use borrow.Author.Tests.{ltb-false}
use lib.Dec.{eqb, ltb}
use lib.ListN.{length, take, drop, drop_of_length-le, length-drop, length-take}
use Rattle.std.specs.List.{position, position_or_len}
use Rattle.std.specs.Prelude.{Some, None}
use Rattle.std.proofs.lemmas.List.{take_all}
use Rattle.octets.specs.Bytes.{pick}
use Rattle.drill_words.specs.Words.{upto, past, skip, word}

-- the place of the first c, or the length
abbrev pub place : ℕ → List ℕ → ℕ
place c l = position_or_len (λ x. eqb x c) l

front_case : (x n : ℕ) (xs u : List ℕ) (b : Bool) → u ≡ take n xs → pick b [] (x ∷ u) ≡ take (cond (not b) (1 + n) 0) (x ∷ xs)
unfolding pick
front_case x n xs u true e = refl
front_case x n xs u false e = let f : 1 + n ≡ suc n = omega arith in rw f (ap (λ (l : List ℕ). x ∷ l) e)

front : (c : ℕ) (l : List ℕ) → upto c l ≡ take (place c l) l
unfolding upto
front c [] = refl
front c (x ∷ xs) = front_case x (place c xs) xs (upto c xs) (eqb x c) (front c xs)

rest_case : (x n : ℕ) (xs u : List ℕ) (b : Bool) → u ≡ drop (n + 1) xs → pick b xs u ≡ drop (cond (not b) (1 + n) 0 + 1) (x ∷ xs)
unfolding pick
rest_case x n xs u true e = refl
rest_case x n xs u false e = let f : 1 + n + 1 ≡ suc (n + 1) = omega arith in rw f e

rest : (c : ℕ) (l : List ℕ) → past c l ≡ drop (place c l + 1) l
unfolding past
rest c [] = refl
rest c (x ∷ xs) = rest_case x (place c xs) xs (past c xs) (eqb x c) (rest c xs)

-- what a search says of it
some_case : (n i : ℕ) (b : Bool) → Some i ≡ cond b (Some n) None → i ≡ n
some_case n i true e = cc
some_case n i false e = cc

none_case : (n : ℕ) (b : Bool) → None ≡ cond b (Some n) None → b ≡ false
none_case n true e = cc
none_case n false e = refl

module _ (c i : ℕ) (l : List ℕ) (e : Some i ≡ position (λ x. eqb x c) l) where
  at : i ≡ place c l
  at = some_case (place c l) i (ltb (place c l) (length l)) e

  pub front_at : take i l ≡ upto c l
  front_at = rw at (sym (front c l))

  pub rest_at : drop (i + 1) l ≡ past c l
  rest_at = rw at (sym (rest c l))

module _ (c : ℕ) (l : List ℕ) (e : None ≡ position (λ x. eqb x c) l) where
  over : length l ≤ place c l
  over = ltb-false _ _ (none_case (place c l) (ltb (place c l) (length l)) e)

  pub front_all : l ≡ upto c l
  front_all = sym (front c l ∙ take_all (place c l) l over)

  pub rest_none : [] ≡ past c l
  rest_none = sym (rest c l ∙ drop_of_length-le l (omega (arith, over)))

-- a part up to the end
pub to_end : (n : ℕ) (l : List ℕ) → take (length l - n) (drop n l) ≡ drop n l
to_end n l = take_all (length l - n) (drop n l) (simp length-drop (omega arith))

-- one word further
pub skip_more : (j : ℕ) (l : List ℕ) → past 32 (skip j l) ≡ skip (suc j) l
unfolding skip
skip_more zero l = refl
skip_more (suc j) l = skip_more j (past 32 l)

-- no word is longer than its line
pub word_short : (i : ℕ) (l : List ℕ) → length (word i l) ≤ length l
unfolding word skip
word_short zero l = rw (front 32 l) (omega (arith, length-take (place 32 l) l))
word_short (suc i) l =
    let h = word_short i (past 32 l) in
    let g : length (past 32 l) ≤ length l = rw (rest 32 l, length-drop) (omega arith) in
    omega arith
