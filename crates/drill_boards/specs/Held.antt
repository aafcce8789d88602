-- Document 01, "The drill program": the boards of a drill, and what they have put out. The quoted words are that section's.
use Rattle.std.specs.Prelude.{ℕ, ◌-◌, List, Bool, true, ltb, eqb, length, get_or, replicate}
use Rattle.octets.specs.Bytes.{pick}
use Rattle.table.specs.declared.Table.{Table}

-- what is known of the boards: of board i + 1 its state, and the echo and the vote that it has put out, no bytes before it has
pub record Boards : Type 0 where
  pub state : ℕ → List ℕ
  pub echo : ℕ → List ℕ
  pub vote : ℕ → List ℕ

-- a clean buffer of n bytes
unfoldable pub zeros : ℕ → List ℕ
zeros n = replicate n 0

-- f, but v at i
abbrev pub changed : (ℕ → List ℕ) → ℕ → List ℕ → ℕ → List ℕ
changed f i v = λ j. pick (eqb j i) v (f j)

-- "s 1 2 hands board 1's send to board 2; e, v likewise": whether the record was put out. "A rule-keeping sender puts out its n send
-- records", no other board has one; raw bytes are always there
unfoldable pub put_out_yet : Table → Boards → ℕ → ℕ → Bool
put_out_yet b B kind from =
    pick (eqb kind 115) (eqb from b.sender)
    (pick (eqb kind 101) (ltb 0 (length (B.echo (from - 1))))
    (pick (eqb kind 118) (ltb 0 (length (B.vote (from - 1))))
    true))

-- board i + 1 has put out a record, by its kind byte an echo or a vote, or none
unfoldable pub with_record : Boards → ℕ → List ℕ → Boards
with_record B i w = record {
  state = B.state;
  echo = pick (eqb (get_or w 0 0) 2) (changed B.echo i w) B.echo;
  vote = pick (eqb (get_or w 0 0) 3) (changed B.vote i w) B.vote;
}

-- board i + 1 has a new state
unfoldable pub with_state : Boards → ℕ → List ℕ → Boards
with_state B i s = record { state = changed B.state i s; echo = B.echo; vote = B.vote }

-- "act is the record put out: e, v or -" (101, 118, 45), by its kind byte
unfoldable pub act_of : ℕ → ℕ
act_of kind = pick (eqb kind 2) 101 (pick (eqb kind 3) 118 45)
