-- Document 01, "The drill program": what each line of a drill must be. The quoted words are that section's.
use Rattle.std.specs.Prelude.{ℕ, ◌*◌, List, Bool, not, ◌&&◌, ◌||◌, leb, ltb, eqb, length, get_or}
use Rattle.octets.specs.Bytes.{pick}
use Rattle.table.specs.Table.{limits, is_board}
use Rattle.table.specs.declared.Table.{Table}
use Rattle.drill_words.specs.Words.{how_many, word}
use Rattle.drill_words.specs.Numbers.{number_of, is_hex, from_hex}

-- "1,024 characters a line"
abbrev pub fits : List ℕ → Bool
fits l = leb (length l) 1024

-- so many spaces. Words stand one space apart: a space too many makes a word of no bytes, which is neither number nor hex
abbrev pub spaces : List ℕ → ℕ → Bool
spaces l n = eqb (how_many 32 l) n

-- "1,024 characters a line", and so many spaces
abbrev pub form : List ℕ → ℕ → Bool
form l n = fits l && spaces l n

-- ---- "line 1 n t S L", "n up to 7 and L up to 64"

abbrev pub table_in : List ℕ → Table
table_in l = record { n = number_of (word 0 l); t = number_of (word 1 l); sender = number_of (word 2 l); longest = number_of (word 3 l) }

unfoldable pub right_table : List ℕ → Bool
right_table l = form l 3 && (limits (table_in l) && (leb (table_in l).n 7 && leb (table_in l).longest 64))

-- ---- "line 2 the count of rule-breaking boards, then their numbers"; "at most t rule-breakers, none twice". With n up to 7, t is at most 2

-- their numbers; one that is not there counts as 10,000, which no board has
pub record Breakers : Type 0 where
  pub first : ℕ
  pub second : ℕ

abbrev pub breakers_in : List ℕ → Breakers
breakers_in l = record { first = number_of (word 1 l); second = number_of (word 2 l) }

-- c of them are boards, and differ
abbrev pub are_boards : Table → ℕ → Breakers → Bool
are_boards b c x = ltb c 1 || (is_board b x.first && (ltb c 2 || (is_board b x.second && not (eqb x.first x.second))))

unfoldable pub right_breakers : Table → List ℕ → Bool
right_breakers b l = let c = number_of (word 0 l) in form l c && (leb c b.t && are_boards b c (breakers_in l))

abbrev pub breaks : Breakers → ℕ → Bool
breaks x i = eqb i x.first || eqb i x.second

-- ---- "line 3 message length, then hex"; "hex is .. left out for no bytes"; "a message above L" is a bad line

unfoldable pub message_in : List ℕ → List ℕ
message_in l = from_hex (word 1 l)

abbrev pub spaces_for : ℕ → ℕ
spaces_for c = pick (eqb c 0) 0 1

unfoldable pub right_message : Table → List ℕ → Bool
right_message b l =
    let c = number_of (word 0 l) in
    form l (spaces_for c) && (leb c b.longest && (is_hex (word 1 l) && eqb (length (word 1 l)) (2 * c)))

-- ---- "line 4 the count of steps", at most "1,000 steps"

abbrev pub count_in : List ℕ → ℕ
count_in l = number_of (word 0 l)

unfoldable pub right_count : List ℕ → Bool
right_count l = form l 0 && leb (count_in l) 1000

-- ---- "then the steps": `s 1 2`, `e 1 2`, `v 1 2`, `r 3 2 hex`

-- s, e, v or r (115, 101, 118, 114): the first word, of one byte; 0 for a longer one
unfoldable pub kind_in : List ℕ → ℕ
kind_in l = pick (eqb (length (word 0 l)) 1) (get_or l 0 0) 0

abbrev pub from_in : List ℕ → ℕ
from_in l = number_of (word 1 l)

abbrev pub to_in : List ℕ → ℕ
to_in l = number_of (word 2 l)

abbrev pub right_kind : ℕ → Bool
right_kind k = eqb k 115 || (eqb k 101 || (eqb k 118 || eqb k 114))

-- "r 3 2 hex": raw bytes that are not none are a fourth word
abbrev pub right_raw : List ℕ → Bool
right_raw l = eqb (kind_in l) 114 && (spaces l 3 && (is_hex (word 3 l) && ltb 0 (length (word 3 l))))

abbrev pub right_words : List ℕ → Bool
right_words l = spaces l 2 || right_raw l

-- "the receiver keeps the rules in every step; the sending board does in s, e, v"; r is "from rule-breaking board 3"
abbrev pub right_boards : Table → Breakers → ℕ → ℕ → ℕ → Bool
right_boards b x k from to =
    is_board b from && (is_board b to && (not (breaks x to) && pick (eqb k 114) (breaks x from) (not (breaks x from))))

unfoldable pub right_step : Table → Breakers → List ℕ → Bool
right_step b x l = fits l && (right_kind (kind_in l) && (right_words l && right_boards b x (kind_in l) (from_in l) (to_in l)))
