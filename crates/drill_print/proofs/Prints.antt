-- Text that is printed one after the other is one text.
use mathlib.Core.Path.{◌≡◌, refl, ap, ◌∙◌}
use Prim.Native.Nat.{ℕ, zero, suc, ◌+◌, ◌*◌, ◌/◌, ◌%◌, ◌<◌}
use mathlib.Core.List.{List, [], ◌∷◌, ◌++◌}
use native.Mathlib.Omega.{arith}
use lib.ListN.{length, length-append, take, get_or}
use native.Mathlib.Numerals.{add-one}
use Rattle.std.proofs.lemmas.Bool.Decides.{nat_tests}
use Rattle.octets.specs.Bytes.{put}
use Rattle.octets.proofs.Laws.{put_next}
use Rattle.drill_words.specs.Numbers.{hex_of, letter}
use Rattle.drill_print.specs.declared.Page.{Page}
use Rattle.drill_print.specs.Printed.{Printed, Wrote}

pub then : {v w a b c : List ℕ} {p q r : ℕ} → Printed v p a b q → Printed w q b c r → Printed (v ++ w) p a c r
then {v} {w} {a} {b} {c} {p} {q} {r} x y = record {
  text_is = y.text_is ∙ ap (put q w) x.text_is ∙ put_next v w a p q x.ends;
  ends = omega (arith, y.ends, x.ends, length-append v w);
}

pub wrote_both : {v w : List ℕ} {a b c : Page} → Wrote v a b → Wrote w b c → Wrote (v ++ w) a c
wrote_both x y = record { same_text = y.same_text ∙ x.same_text; printed = then x.printed y.printed; long = y.long ∙ x.long }

pub wrote_none : (a : Page) → Wrote [] a a
unfolding put
wrote_none a = record { same_text = refl; printed = record { text_is = refl; ends = omega arith }; long = refl }

-- where the text ends
pub wrote_to : {v : List ℕ} {a b : Page} → Wrote v a b → b.at ≡ a.at + length v
wrote_to x = x.printed.ends

pub hex_length : (m : List ℕ) → length (hex_of m) ≡ 2 * length m
unfolding hex_of
hex_length [] = refl
hex_length (x ∷ xs) = let e = hex_length xs in omega arith

-- one byte more in hex
pub hex_more : (m : List ℕ) (i : ℕ) → i < length m → hex_of (take i m) ++ (letter (get_or m i 0 / 16) ∷ letter (get_or m i 0 % 16) ∷ []) ≡ hex_of (take (i + 1) m)
unfolding hex_of
hex_more [] i h = absurd (omega arith)
hex_more (x ∷ xs) zero h = refl
hex_more (x ∷ xs) (suc i) h = rw add-one (ap (λ (l : List ℕ). letter (x / 16) ∷ letter (x % 16) ∷ l) (hex_more xs i (omega arith) ∙ rw add-one))

pub ruleset printing = (nat_tests, wrote_both, hex_length)
