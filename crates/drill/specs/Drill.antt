-- Document 01, "The drill program", whole: what a drill prints, for every input. The quoted words are that section's.
use Rattle.std.specs.Prelude.{ℕ, zero, suc, ◌+◌, List, [], ◌++◌, ltb, length}
use Rattle.octets.specs.Bytes.{pick}
use Rattle.table.specs.declared.Table.{Table}
use Rattle.drill_words.specs.Words.{upto, past}
use Rattle.drill_lines.specs.Lines.{Breakers, right_step}
use Rattle.drill_boards.specs.Held.{Boards}
use Rattle.drill_step.specs.Boards.{fresh, turn_of}
use Rattle.drill_open.specs.Opened.{line_right, Begin, wrong, begins, opening1}
use Rattle.drill_print.specs.Text.{heading, line_text, bad}

-- "then the steps": so many, from step k on, which is on line k + 4; no line follows the last. "Any other line, a missing line ..: `bad line` and
-- the line's number after what is already printed, and it stops"
unfoldable pub steps_from : Table → Breakers → List ℕ → ℕ → ℕ → List ℕ → Boards → List ℕ
steps_from b x message zero k rest B = pick (ltb 0 (length rest)) (bad (k + 4)) []
steps_from b x message (suc m) k rest B =
    let t = turn_of b message B (upto 10 rest) in
    pick (line_right (right_step b x) rest)
    (line_text k (upto 10 rest) t.shown t.message ++ steps_from b x message m (k + 1) (past 10 rest) t.boards)
    (bad (k + 4))

-- what is printed after the heading, by what the four lines before the steps say
unfoldable pub printed_by : Begin → List ℕ
printed_by (wrong n) = bad n
printed_by (begins b x message count rest) = steps_from b x message count 1 rest (fresh b)

-- all that a drill prints
unfoldable pub drill_of : List ℕ → List ℕ
drill_of input = heading ++ printed_by (opening1 input)
