-- Document 01, "Refusal numbers": a start looks in the order 1, 2.
use Rattle.std.specs.Prelude.{ℕ, ◌-◌, List, ◌∷◌, ◌++◌, not, ◌&&◌, length, replicate, ltb}
use Rattle.octets.specs.Bytes.{pick, put, two}
use Rattle.table.specs.Table.{limits, is_board}
use Rattle.table.specs.declared.Table.{Table}
use Rattle.state.specs.State.{marks_at, fixed_bytes, state_size}

-- the first 4,608 bytes of a fresh state: the table and the own number, no flag, no board heard, all else zero
unfoldable pub fresh_bytes : Table → ℕ → List ℕ
fresh_bytes b own = b.n ∷ b.t ∷ b.sender ∷ own ∷ (two b.longest ++ replicate (fixed_bytes - marks_at) 0)

-- what a start leaves: its answer, and the state lent
pub record Begun : Type 0 where
  pub number : ℕ
  pub state : List ℕ

-- a start's answer and its state, as one
abbrev pub begun : ℕ → List ℕ → Begun
begun number state = record { number = number; state = state }

-- 1, "table outside its limits", of which the own number is one here; 2, "a lent buffer shorter than needed"
unfoldable pub start_of : Table → ℕ → List ℕ → Begun
start_of b own s =
    pick (not (limits b && is_board b own)) (begun 1 s)
    (pick (ltb (length s) (state_size b)) (begun 2 s)
    (begun 0 (put 0 (fresh_bytes b own) s)))
