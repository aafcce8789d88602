-- What a line's first word and its spaces say.
use mathlib.Core.Path.{◌≡◌, refl}
use Prim.Native.Nat.{ℕ, ◌+◌, ◌≤◌}
use mathlib.Core.List.{List, [], ◌∷◌}
use mathlib.Core.Bool.{Bool, true, false}
use native.Mathlib.Omega.{arith}
use lib.Dec.{eqb}
use lib.ListN.{length, get_or}
use Rattle.std.proofs.lemmas.Bool.Decides.{nat_tests}
use Rattle.octets.specs.Bytes.{pick}
use Rattle.octets.specs.Sets.{bit}
use Rattle.drill_words.specs.Words.{upto, how_many, skip, word}
use Rattle.drill_words.proofs.Finding.{word_short}
use Rattle.drill_lines.specs.Lines.{form, kind_in}

-- the first word begins as the line does
first_case : (b : Bool) (x : ℕ) (u xs : List ℕ) → pick (eqb (length (pick b [] (x ∷ u))) 1) x 0 ≡ pick (eqb (length (pick b [] (x ∷ u))) 1) (get_or (pick b [] (x ∷ u)) 0 0) 0
unfolding pick
first_case true x u xs = refl
first_case false x u xs = refl

pub kind_is : (l : List ℕ) → kind_in l ≡ pick (eqb (length (word 0 l)) 1) (get_or (word 0 l) 0 0) 0
unfolding kind_in word skip upto
kind_is [] = refl
kind_is (x ∷ xs) = first_case (eqb x 32) x (upto 32 xs) xs

many_case : (b : Bool) (m n : ℕ) → m ≤ n → bit b + m ≤ n + 1
many_case true m n h = omega arith
many_case false m n h = omega arith

many : (c : ℕ) (l : List ℕ) → how_many c l ≤ length l
unfolding how_many
many c [] = omega arith
many c (x ∷ xs) = let h = many_case (eqb x c) (how_many c xs) (length xs) (many c xs) in omega arith

-- no line has so many spaces
pub no_form : (l : List ℕ) → form l 10000 ≡ false
no_form l = let h = many 32 l in grind (arith, nat_tests)

pub ruleset tests = (nat_tests, kind_is, no_form, word_short)
