-- The first 1,029,101 bytes of an input say all that a drill prints: 1,004 lines of 1,024 characters with their ends, and one byte more.
use mathlib.Core.Path.{◌≡◌, refl, sym, ap, ◌∙◌}
use Prim.Native.Nat.{ℕ, zero, suc, ◌+◌, ◌-◌, ◌*◌, ◌≤◌, ◌<◌}
use mathlib.Core.List.{List, [], ◌∷◌, ◌++◌}
use mathlib.Core.Bool.{Bool, true, false}
use mathlib.Core.Logic.{⊎_elim}
use native.Mathlib.Omega.{arith}
use borrow.Author.Tests.{lt-ltb, leb-true}
use lib.Dec.{eqb, ltb, leb}
use lib.ListN.{length, take}
use lib.Seq.{take-nil}
use Rattle.octets.specs.Bytes.{pick}
use Rattle.octets.proofs.Picks.{and_l, and_r}
use Rattle.octets.proofs.Walk.{lt_or_le}
use Rattle.table.specs.declared.Table.{Table}
use Rattle.drill_words.specs.Words.{upto, past, word}
use Rattle.drill_words.specs.Numbers.{number_of}
use Rattle.drill_lines.specs.Lines.{Breakers, spaces, form, spaces_for, table_in, right_table, breakers_in, right_breakers, message_in, right_message, count_in, right_count, right_step}
use Rattle.drill_boards.specs.Held.{Boards}
use Rattle.drill_step.specs.Boards.{fresh, turn_of}
use Rattle.drill_print.specs.Text.{heading, line_text, bad}
use Rattle.drill_open.proofs.Opens.{right_line}
use Rattle.drill_open.specs.Opened.{Begin, wrong, begins, line_right, opening4, opening3, opening2, opening1}
use Rattle.drill.specs.Drill.{steps_from, printed_by, drill_of}

-- ---- a line within the first m bytes

upto_case : (x : ℕ) (c : Bool) (u v : List ℕ) → (c ≡ false → u ≡ v) → pick c [] (x ∷ u) ≡ pick c [] (x ∷ v)
unfolding pick
upto_case x true u v h = refl
upto_case x false u v h = ap (λ (l : List ℕ). x ∷ l) (h refl)

shorter : (x : ℕ) (c : Bool) (u : List ℕ) (m : ℕ) → length (pick c [] (x ∷ u)) < suc m → c ≡ false → length u < m
unfolding pick
shorter x true u m h e = absurd (let z : ◌≡◌ {A = ℕ} 0 1 = cc in omega arith)
shorter x false u m h e = omega arith

upto_within : (l : List ℕ) (m : ℕ) → length (upto 10 l) < m → upto 10 (take m l) ≡ upto 10 l
unfolding upto
upto_within [] m h = ap (upto 10) (take-nil m)
upto_within (x ∷ xs) zero h = absurd (omega arith)
upto_within (x ∷ xs) (suc m) h = upto_case x (eqb x 10) (upto 10 (take m xs)) (upto 10 xs) (λ e. upto_within xs m (shorter x (eqb x 10) (upto 10 xs) m h e))

past_case : (x m : ℕ) (c : Bool) (xs u p q : List ℕ) → (c ≡ false → p ≡ take (m - suc (length u)) q)
    → pick c (take m xs) p ≡ take (suc m - suc (length (pick c [] (x ∷ u)))) (pick c xs q)
unfolding pick
past_case x m true xs u p q h = let e : suc m - suc zero ≡ m = omega arith in sym (ap (λ (n : ℕ). take n xs) e)
past_case x m false xs u p q h = h refl ∙ (let e : m - suc (length u) ≡ suc m - suc (suc (length u)) = omega arith in ap (λ (n : ℕ). take n q) e)

past_within : (l : List ℕ) (m : ℕ) → length (upto 10 l) < m → past 10 (take m l) ≡ take (m - suc (length (upto 10 l))) (past 10 l)
unfolding upto past
past_within [] m h = ap (past 10) (take-nil m) ∙ sym (take-nil (m - 1))
past_within (x ∷ xs) zero h = absurd (omega arith)
past_within (x ∷ xs) (suc m) h =
    past_case x m (eqb x 10) xs (upto 10 xs) (past 10 (take m xs)) (past 10 xs) (λ e. past_within xs m (shorter x (eqb x 10) (upto 10 xs) m h e))

-- a line that is longer
longer : (x : ℕ) (c : Bool) (u : List ℕ) (m : ℕ) → suc m ≤ length (pick c [] (x ∷ u)) → (c ≡ false) × (m ≤ length u)
unfolding pick
longer x true u m h = absurd (omega arith)
longer x false u m h = (refl, omega arith)

one_longer : (x : ℕ) (c : Bool) (u : List ℕ) (m : ℕ) → c ≡ false → m ≤ length u → suc m ≤ length (pick c [] (x ∷ u))
unfolding pick
one_longer x c u m e h = rw e (omega arith)

upto_beyond : (l : List ℕ) (m : ℕ) → m ≤ length (upto 10 l) → m ≤ length (upto 10 (take m l))
unfolding upto
upto_beyond l zero h = omega arith
upto_beyond [] (suc m) h = absurd (omega arith)
upto_beyond (x ∷ xs) (suc m) h =
    let (e, g) = longer x (eqb x 10) (upto 10 xs) m h in one_longer x (eqb x 10) (upto 10 (take m xs)) m e (upto_beyond xs m g)

some_left : (l : List ℕ) (m : ℕ) → 0 < m → ltb 0 (length (take m l)) ≡ ltb 0 (length l)
some_left [] m h = ap (λ (z : List ℕ). ltb 0 (length z)) (take-nil m)
some_left (x ∷ xs) zero h = absurd (omega arith)
some_left (x ∷ xs) (suc m) h = rw (lt-ltb 0 (suc (length (take m xs))) (omega arith), lt-ltb 0 (suc (length xs)) (omega arith))

-- ---- one line: a right line has at most 1,024 characters

false_unless : (c : Bool) → (c ≡ true → ⊥) → c ≡ false
false_unless true h = absurd (h refl)
false_unless false h = refl

-- what follows a line that is right, or that it is bad
abbrev on_line : (List ℕ → Bool) → ℕ → List ℕ → (List ℕ → List ℕ → List ℕ) → List ℕ
on_line right number rest next = pick (line_right right rest) (next (upto 10 rest) (past 10 rest)) (bad number)

printed_line : (c : Bool) (a : Begin) (n : ℕ) → printed_by (pick c a (wrong n)) ≡ pick c (printed_by a) (bad n)
unfolding pick printed_by
printed_line true a n = refl
printed_line false a n = refl

module _ (right : List ℕ → Bool) (brief : (l : List ℕ) → right l ≡ true → length l ≤ 1024) (rest : List ℕ) (m : ℕ) (room : 1025 ≤ m) where
  too_long : 1024 < length (upto 10 rest) → line_right right (take m rest) ≡ line_right right rest
  unfolding line_right
  too_long h =
      let a : right (upto 10 rest) ≡ false = false_unless (right (upto 10 rest)) (λ e. let k = brief (upto 10 rest) e in omega arith) in
      let b : right (upto 10 (take m rest)) ≡ false =
      false_unless (right (upto 10 (take m rest))) (λ e. let k = brief (upto 10 (take m rest)) e in
      ⊎_elim (λ p. let q = ap length (upto_within rest m p) in omega arith) (λ p. let q = upto_beyond rest m p in omega arith) (lt_or_le (length (upto 10 rest)) m)) in
      rw (some_left rest m (omega arith), a, b)

  in_time : length (upto 10 rest) ≤ 1024 → line_right right (take m rest) ≡ line_right right rest
  unfolding line_right
  in_time h = rw (some_left rest m (omega arith), upto_within rest m (omega arith))

  pub line_right_same : line_right right (take m rest) ≡ line_right right rest
  line_right_same = ⊎_elim (λ p. too_long p) (λ p. in_time p) (lt_or_le 1024 (length (upto 10 rest)))

  module _ (number : ℕ) (next : List ℕ → List ℕ → List ℕ)
      (same : (l more : List ℕ) (n : ℕ) → right l ≡ true → m ≤ n + 1025 → next l (take n more) ≡ next l more) where
    on_case : (c : Bool) → line_right right rest ≡ c → on_line right number (take m rest) next ≡ on_line right number rest next
    unfolding pick
    on_case false e = rw (line_right_same, e)
    on_case true e =
        let r = right_line right rest e in
        let k = brief (upto 10 rest) r in
        rw (line_right_same, e, upto_within rest m (omega arith), past_within rest m (omega arith))
        (same (upto 10 rest) (past 10 rest) (m - suc (length (upto 10 rest))) r (omega arith))

    pub on_same : on_line right number (take m rest) next ≡ on_line right number rest next
    on_same = on_case (line_right right rest) refl

-- ---- the lines that are right are brief

form_brief : (l : List ℕ) (n : ℕ) → form l n ≡ true → length l ≤ 1024
form_brief l n e = leb-true (length l) 1024 (and_l (leb (length l) 1024) (spaces l n) e)

table_brief : (l : List ℕ) → right_table l ≡ true → length l ≤ 1024
unfolding right_table
table_brief l e = form_brief l 3 (and_l (form l 3) _ e)

breakers_brief : (b : Table) (l : List ℕ) → right_breakers b l ≡ true → length l ≤ 1024
unfolding right_breakers
breakers_brief b l e = form_brief l (number_of (word 0 l)) (and_l (form l (number_of (word 0 l))) _ e)

message_brief : (b : Table) (l : List ℕ) → right_message b l ≡ true → length l ≤ 1024
unfolding right_message
message_brief b l e = form_brief l (spaces_for (number_of (word 0 l))) (and_l (form l (spaces_for (number_of (word 0 l)))) _ e)

count_brief : (l : List ℕ) → right_count l ≡ true → length l ≤ 1024
unfolding right_count
count_brief l e = form_brief l 0 (and_l (form l 0) _ e)

step_brief : (b : Table) (x : Breakers) (l : List ℕ) → right_step b x l ≡ true → length l ≤ 1024
unfolding right_step
step_brief b x l e = leb-true (length l) 1024 (and_l (leb (length l) 1024) _ e)

-- ---- the steps, the lines before them, the whole

steps_same : (b : Table) (x : Breakers) (message : List ℕ) (n k m : ℕ) (rest : List ℕ) (B : Boards) → 1025 * n + 1 ≤ m
    → steps_from b x message n k (take m rest) B ≡ steps_from b x message n k rest B
unfolding steps_from
steps_same b x message zero k m rest B h = ap (λ (c : Bool). pick c (bad (k + 4)) []) (some_left rest m (omega arith))
steps_same b x message (suc n) k m rest B h =
    on_same (right_step b x) (step_brief b x) rest m (omega arith) (k + 4)
    (λ l more. line_text k l (turn_of b message B l).shown (turn_of b message B l).message ++ steps_from b x message n (k + 1) more (turn_of b message B l).boards)
    (λ l more j r g.
    ap (λ (z : List ℕ). line_text k l (turn_of b message B l).shown (turn_of b message B l).message ++ z)
    (steps_same b x message n (k + 1) j more (turn_of b message B l).boards (omega arith)))

few_steps : (l : List ℕ) → right_count l ≡ true → count_in l ≤ 1000
unfolding right_count
few_steps l e = leb-true (count_in l) 1000 (and_r (form l 0) _ e)

-- the four lines: what is printed by them is the same if what follows a right one is
opens_same : (right : List ℕ → Bool) (brief : (l : List ℕ) → right l ≡ true → length l ≤ 1024) (number : ℕ) (rest : List ℕ) (m : ℕ) → 1025 ≤ m
    → (next : List ℕ → List ℕ → Begin)
    → ((l more : List ℕ) (n : ℕ) → right l ≡ true → m ≤ n + 1025 → printed_by (next l (take n more)) ≡ printed_by (next l more))
    → printed_by (pick (line_right right (take m rest)) (next (upto 10 (take m rest)) (past 10 (take m rest))) (wrong number))
    ≡ printed_by (pick (line_right right rest) (next (upto 10 rest) (past 10 rest)) (wrong number))
opens_same right brief number rest m room next same =
    printed_line (line_right right (take m rest)) _ number ∙ on_same right brief rest m room number (λ l more. printed_by (next l more)) same
    ∙ sym (printed_line (line_right right rest) _ number)

line4_same : (b : Table) (x : Breakers) (message rest : List ℕ) (m : ℕ) → 1026026 ≤ m
    → printed_by (opening4 b x message (take m rest)) ≡ printed_by (opening4 b x message rest)
unfolding opening4 printed_by
line4_same b x message rest m h =
    opens_same right_count count_brief 4 rest m (omega arith) (λ l more. begins b x message (count_in l) more)
    (λ l more j r g. let f = few_steps l r in steps_same b x message (count_in l) 1 j more (fresh b) (omega arith))

line3_same : (b : Table) (x : Breakers) (rest : List ℕ) (m : ℕ) → 1027051 ≤ m → printed_by (opening3 b x (take m rest)) ≡ printed_by (opening3 b x rest)
unfolding opening3
line3_same b x rest m h =
    opens_same (right_message b) (message_brief b) 3 rest m (omega arith) (λ l more. opening4 b x (message_in l) more)
    (λ l more j r g. line4_same b x (message_in l) more j (omega arith))

line2_same : (b : Table) (rest : List ℕ) (m : ℕ) → 1028076 ≤ m → printed_by (opening2 b (take m rest)) ≡ printed_by (opening2 b rest)
unfolding opening2
line2_same b rest m h =
    opens_same (right_breakers b) (breakers_brief b) 2 rest m (omega arith) (λ l more. opening3 b (breakers_in l) more)
    (λ l more j r g. line3_same b (breakers_in l) more j (omega arith))

-- bytes beyond the first m say nothing
pub prefix_says_all : (input : List ℕ) (m : ℕ) → 1029101 ≤ m → drill_of (take m input) ≡ drill_of input
unfolding drill_of opening1
prefix_says_all input m h =
    ap (λ (z : List ℕ). heading ++ z)
    (opens_same right_table table_brief 1 input m (omega arith) (λ l more. opening2 (table_in l) more)
    (λ l more j r g. line2_same (table_in l) more j (omega arith)))
