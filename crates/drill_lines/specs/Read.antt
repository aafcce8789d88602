-- What a function that reads a line tells.
use Rattle.std.specs.Prelude.{◌≡◌, ℕ, List, Bool, true, false, Option, Some, None, unwrap_or}
use Rattle.drill_words.specs.Words.{word}
use Rattle.drill_lines.specs.declared.Breakers.{Breakers as Named}
use Rattle.drill_lines.specs.declared.Handed.{Handed}
use Rattle.drill_lines.specs.declared.Handed.TheVariants.{Send, Echo, Vote, Raw}
use Rattle.drill_lines.specs.declared.Step.{Step}
use Rattle.drill_lines.specs.Lines.{Breakers, kind_in, from_in, to_in}

-- it is read if it is right, and no other line is
abbrev pub Reads : {X : Type 0} → Option X → Bool → (X → Type 0) → Type 0
Reads None right says = right ≡ false
Reads (Some x) right says = (right ≡ true) × says x

-- rule-breakers by their numbers
abbrev pub numbered : Named → Breakers
numbered x = record { first = unwrap_or x.first 10000; second = unwrap_or x.second 10000 }

-- the letter of what is handed over
abbrev pub letter_of : Handed → ℕ
letter_of Send = 115
letter_of Echo = 101
letter_of Vote = 118
letter_of (Raw w) = 114

-- raw bytes are those of the fourth word
abbrev pub IsRaw : Handed → List ℕ → Type 0
IsRaw (Raw w) l = w.now ≡ word 3 l
IsRaw _ l = Unit {0}

-- s is the step that line l says
pub record IsStep (s : Step) (l : List ℕ) : Type 0 where
  pub kind_is : letter_of s.handed ≡ kind_in l
  pub raw_is : IsRaw s.handed l
  pub from_is : s.from ≡ from_in l
  pub to_is : s.to ≡ to_in l
