-- Document 01, "The drill program": what one step does with the boards of a drill. The quoted words are that section's.
use Rattle.std.specs.Prelude.{ℕ, ◌+◌, ◌-◌, List, [], ltb, eqb, get_or, take}
use Rattle.record.specs.Form.{out_bytes}
use Rattle.octets.specs.Bytes.{pick}
use Rattle.table.specs.declared.Table.{Table}
use Rattle.drill_words.specs.Words.{word}
use Rattle.drill_words.specs.Numbers.{from_hex}
use Rattle.drill_lines.specs.Lines.{kind_in, from_in, to_in}
use Rattle.board.specs.Started.{start_of}
use Rattle.board_send.specs.Sent.{send_record}
use Rattle.board_step.specs.Step.{Outcome, step_of}
use Rattle.drill_boards.specs.Held.{Boards, zeros, put_out_yet, with_record, with_state, act_of}
use Rattle.drill_print.specs.Text.{Shown}

-- at first: "a board keeps the rules if it starts once". A state buffer of 5,084 bytes is long enough: n × s_max is at most 7 × 68
unfoldable pub fresh : Table → Boards
fresh b = record {
  state = λ i. pick (ltb i 7) (start_of b (i + 1) (zeros 5084)).state [];
  echo = λ i. [];
  vote = λ i. [];
}

-- the record handed over: "the sender's record for board j is worked out from table, message and j"; "r 3 2 hex hands raw bytes"
unfoldable pub record_for : Table → List ℕ → Boards → ℕ → ℕ → ℕ → List ℕ → List ℕ
record_for b message B kind from to l =
    pick (eqb kind 115) (send_record b message to)
    (pick (eqb kind 101) (B.echo (from - 1))
    (pick (eqb kind 118) (B.vote (from - 1))
    (from_hex (word 3 l))))

-- "the receiver keeps the rules in every step": the record goes through its step, with clean buffers, long enough
unfoldable pub step_in : Boards → ℕ → ℕ → List ℕ → Outcome
step_in B from to r = step_of (B.state (to - 1)) from r (zeros out_bytes) (zeros 64)

-- the record that a step put out; no bytes for none
unfoldable pub put_by : Outcome → List ℕ
put_by x = take x.answer.record_length x.out

-- "answer is the refusal number or 0"; the act; the delivery (0 none, 1 a message, 2 void) and the message's length
abbrev pub shown : ℕ → ℕ → ℕ → ℕ → Shown
shown answer act delivery size = record { answer = answer; act = act; delivery = delivery; size = size }

-- what a step shows, the message that it delivers, and the boards after it
pub record Turn : Type 0 where
  pub shown : Shown
  pub message : List ℕ
  pub boards : Boards

-- what a step shows, the message and the boards, as one
abbrev pub turn : Shown → List ℕ → Boards → Turn
turn s m B = record { shown = s; message = m; boards = B }

-- the receiver has taken the record: its answer is shown, its new state and what it put out are kept
unfoldable pub taken : Boards → ℕ → Outcome → Turn
taken B to x =
    turn (shown x.answer.number (act_of (get_or (put_by x) 0 0)) x.answer.delivery x.answer.message_length)
    (take x.answer.message_length x.delivery)
    (with_record (with_state B (to - 1) x.state) (to - 1) (put_by x))

-- 14, "that record was not yet put out": "with answer 14, act and outcome are -"
unfoldable pub missing : Boards → Turn
missing B = turn (shown 14 45 0 0) [] B

-- the step that line l says, with its kind and its boards
unfoldable pub turn_by : Table → List ℕ → Boards → ℕ → ℕ → ℕ → List ℕ → Turn
turn_by b message B kind from to l =
    pick (put_out_yet b B kind from) (taken B to (step_in B from to (record_for b message B kind from to l))) (missing B)

-- the step that line l says
unfoldable pub turn_of : Table → List ℕ → Boards → List ℕ → Turn
turn_of b message B l = turn_by b message B (kind_in l) (from_in l) (to_in l) l
