-- How two lent buffers hold the boards of a drill: 7 states of 5,084 bytes; and 14 slots of 1,024 bytes, an echo and a vote for each board,
-- each a length of two bytes, 0 for none, and the record.
use Rattle.std.specs.Prelude.{ℕ, ◌+◌, ◌*◌, List, leb}
use Rattle.octets.specs.Bytes.{pick, part, two_at}
use Rattle.drill_boards.specs.Held.{Boards}

abbrev pub state_at : ℕ → List ℕ → List ℕ
state_at i states = part (i * 5084) 5084 states

-- a slot holds at most 1,022 bytes, whatever its length says
unfoldable pub slot_length : ℕ → List ℕ → ℕ
slot_length j m = pick (leb (two_at m (j * 1024)) 1022) (two_at m (j * 1024)) 1022

unfoldable pub slot : ℕ → List ℕ → List ℕ
slot j m = part (j * 1024 + 2) (slot_length j m) m

-- the boards that the two buffers hold
unfoldable pub boards_in : List ℕ → List ℕ → Boards
boards_in states kept = record {
  state = λ i. state_at i states;
  echo = λ i. slot (2 * i) kept;
  vote = λ i. slot (2 * i + 1) kept;
}
