-- Document 01, "The drill program": what is printed, as bytes. The quoted words are that section's.
use Rattle.std.specs.Prelude.{ℕ, List, [], ◌∷◌, ◌++◌, eqb}
use Rattle.octets.specs.Bytes.{pick}
use Rattle.drill_words.specs.Numbers.{decimal, hex_of}
use Rattle.drill_lines.specs.Lines.{kind_in, from_in, to_in}

-- what a step shows: the answer, the act's letter, the delivery (0 none, 1 a message, 2 void) and the message's length
pub record Shown : Type 0 where
  pub answer : ℕ
  pub act : ℕ
  pub delivery : ℕ
  pub size : ℕ

-- "the heading line is always printed first": step kind from to answer act outcome
unfoldable pub heading : List ℕ
heading =
    115 ∷ 116 ∷ 101 ∷ 112 ∷ 32
    ∷ 107 ∷ 105 ∷ 110 ∷ 100 ∷ 32
    ∷ 102 ∷ 114 ∷ 111 ∷ 109 ∷ 32
    ∷ 116 ∷ 111 ∷ 32
    ∷ 97 ∷ 110 ∷ 115 ∷ 119 ∷ 101 ∷ 114 ∷ 32
    ∷ 97 ∷ 99 ∷ 116 ∷ 32
    ∷ 111 ∷ 117 ∷ 116 ∷ 99 ∷ 111 ∷ 109 ∷ 101 ∷ 10 ∷ []

-- a number, and a letter, each with a space after it
abbrev pub numbered : ℕ → List ℕ
numbered n = decimal n ++ (32 ∷ [])

-- a letter and a space
abbrev pub lettered : ℕ → List ℕ
lettered c = c ∷ 32 ∷ []

-- "outcome is -, void, or m and the message in hex"; "hex is .. left out for no bytes"; the line ends with it
unfoldable pub outcome_text : ℕ → List ℕ → List ℕ
outcome_text delivery message =
    pick (eqb delivery 1) (109 ∷ (hex_of message ++ (10 ∷ [])))
    (pick (eqb delivery 2) (118 ∷ 111 ∷ 105 ∷ 100 ∷ 10 ∷ [])
    (45 ∷ 10 ∷ []))

-- "step counts from 1; kind, from and to repeat the input step"; answer, act, outcome
unfoldable pub line_text : ℕ → List ℕ → Shown → List ℕ → List ℕ
line_text k l s message =
    numbered k ++ (lettered (kind_in l) ++ (numbered (from_in l) ++ (numbered (to_in l)
    ++ (numbered s.answer ++ (lettered s.act ++ outcome_text s.delivery message)))))

-- "`bad line` and the line's number"
unfoldable pub bad : ℕ → List ℕ
bad n = (98 ∷ 97 ∷ 100 ∷ 32 ∷ 108 ∷ 105 ∷ 110 ∷ 101 ∷ 32 ∷ []) ++ (decimal n ++ (10 ∷ []))
