-- Document 01, "The drill program": the next line of a drill, and what the four lines before the steps say. The quoted words are that section's.
use Rattle.std.specs.Prelude.{ℕ, List, Bool, ◌&&◌, ltb, length}
use Rattle.octets.specs.Bytes.{pick}
use Rattle.table.specs.declared.Table.{Table}
use Rattle.drill_words.specs.Words.{upto, past}
use Rattle.drill_lines.specs.Lines.{Breakers, table_in, right_table, breakers_in, right_breakers, message_in, right_message, count_in, right_count}

-- whether the next line of what is left is there and right; lines end with LF, the last may lack it
unfoldable pub line_right : (List ℕ → Bool) → List ℕ → Bool
line_right right rest = ltb 0 (length rest) && right (upto 10 rest)

-- the number of the first line that is not right; or the table, the rule-breakers, the message, the count of steps, and the lines left
pub data Begin : Type 0 where
  wrong : ℕ → Begin
  begins : Table → Breakers → List ℕ → ℕ → List ℕ → Begin

-- "line 4 the count of steps"
unfoldable pub opening4 : Table → Breakers → List ℕ → List ℕ → Begin
opening4 b x message rest = pick (line_right right_count rest) (begins b x message (count_in (upto 10 rest)) (past 10 rest)) (wrong 4)

-- "line 3 message length, then hex"
unfoldable pub opening3 : Table → Breakers → List ℕ → Begin
opening3 b x rest = pick (line_right (right_message b) rest) (opening4 b x (message_in (upto 10 rest)) (past 10 rest)) (wrong 3)

-- "line 2 the count of rule-breaking boards, then their numbers"
unfoldable pub opening2 : Table → List ℕ → Begin
opening2 b rest = pick (line_right (right_breakers b) rest) (opening3 b (breakers_in (upto 10 rest)) (past 10 rest)) (wrong 2)

-- "line 1 n t S L"
unfoldable pub opening1 : List ℕ → Begin
opening1 rest = pick (line_right right_table rest) (opening2 (table_in (upto 10 rest)) (past 10 rest)) (wrong 1)
