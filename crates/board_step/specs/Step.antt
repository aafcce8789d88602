-- Document 01, "A board's step", whole: what a step answers and what it leaves in every buffer lent. The quoted words are that section's.
use Rattle.std.specs.Prelude.{ℕ, ◌-◌, List, [], Bool, not, ◌&&◌, length, eqb}
use Rattle.std.proofs.Math.Option.{Option}
use Rattle.octets.specs.Bytes.{pick, part, put, two_at}
use Rattle.table.specs.Table.{s_max}
use Rattle.table.specs.declared.Table.{Table}
use Rattle.record.specs.Form.{record_of}
use Rattle.state.specs.State.{table_of, own_of, marks_of, len_at, echo_at, fragment_at}
use Rattle.state.specs.Sound.{naming}
use Rattle.state.specs.declared.Marks.{Marks}
use Rattle.tree.specs.Check.{path_correct}
use Rattle.board.specs.Planned.{Plan, Refuse, Take, plan_of}
use Rattle.board.specs.Stepped.{record_root, record_path, record_fragment, marked, kept, voted_now, ends_now, leaves}
use Rattle.deliver.specs.Delivered.{Left, result_of, left_by}
use Rattle.board_step.specs.declared.Stepped.{Stepped}

-- "each accepted step answers 0, the length of the record put out (0 for none ..), and the delivery (none, message with length, void)":
-- a delivery is 0 for none, 1 for a message, 2 for void; "with every other answer the offset is 0"
abbrev pub stepped : ℕ → ℕ → ℕ → Stepped
stepped len delivery size = record { number = 0; offset = 0; record_length = len; delivery = delivery; message_length = size }

-- what a step leaves: its answer, and every buffer lent to be written
pub record Outcome : Type 0 where
  pub answer : Stepped
  pub state : List ℕ
  pub out : List ℕ
  pub delivery : List ℕ

-- the answer and the three buffers, as one
abbrev pub outcome : Stepped → List ℕ → List ℕ → List ℕ → Outcome
outcome answer s o d = record { answer = answer; state = s; out = o; delivery = d }

-- "Refusal numbers": "a refusal returns its number with zeros for every other result and writes nothing"; a fault of the record's form has
-- the offset a beside its number
abbrev pub refused : ℕ → ℕ → List ℕ → List ℕ → List ℕ → Outcome
refused q a s o d = outcome (record { number = q; offset = a; record_length = 0; delivery = 0; message_length = 0 }) s o d

-- the board at whose place a record's path is looked at: of a send, "if the path is correct for the own number"; of an echo from i,
-- "if the path is correct at i"
unfoldable pub place_of : ℕ → ℕ → List ℕ → ℕ
place_of k from s = pick (eqb k 1) (own_of s) from

-- whether the path is correct; a vote has none
unfoldable pub good : ℕ → ℕ → ℕ → ℕ → List ℕ → List ℕ → Bool
good k p f from r s = not (eqb k 3) && path_correct (table_of s).n (place_of k from s) (record_root r) (record_path p r) (record_fragment p f r)

-- "put out an echo with the same root, path and fragment"; "put out a vote for it"; or nothing
unfoldable pub put_out : Bool → Bool → ℕ → ℕ → List ℕ → List ℕ
put_out echo vote p f r =
    pick echo (record_of 2 (record_root r) p (record_path p r) (record_fragment p f r))
    (pick vote (record_of 3 (record_root r) 0 [] []) [])

-- "usable echoes name that root": the boards whose usable echo does
unfoldable pub usable_for : Table → Marks → List ℕ → List ℕ → ℕ
usable_for b m s root = naming b.n m.usable (λ j. part (echo_at j) 32 s) root

-- "keep its root and fragment": the fragment kept of board i, from 1; max is s_max
unfoldable pub kept_of : ℕ → List ℕ → ℕ → List ℕ
kept_of max s i = part (fragment_at max (i - 1)) (two_at s (len_at (i - 1))) s

-- "rebuild from the k lowest-numbered ones; read the block; encode the message afresh": the message, or none for void
unfoldable pub result_in : Table → Marks → List ℕ → List ℕ → Option (List ℕ)
result_in b m s root = result_of b root (usable_for b m s root) (kept_of (s_max b) s)

-- "deliver the message, else deliver void", if the delivery is due; d is the delivery buffer
unfoldable pub delivered : Bool → Option (List ℕ) → List ℕ → Left
delivered ends result d = pick ends (left_by result d) (record { kind = 0; size = 0; buffer = d })

-- what is put out once a record of kind k is kept, by whether its path is correct: an echo at a send, or a vote that is due now
unfoldable pub said_by : Bool → ℕ → ℕ → ℕ → ℕ → List ℕ → List ℕ → List ℕ
said_by ok k p f from r s =
    let b = table_of s in
    let m = marked k (from - 1) ok (marks_of s) in
    let s1 = kept (s_max b) k (from - 1) p f r s in
    put_out (eqb k 1 && ok) (not m.voted && voted_now b (not (eqb k 1)) m s1 (record_root r)) p f r

-- what a record of kind k from a board leaves, with p path nodes and f fragment bytes, once it is taken
unfoldable pub taken_of : ℕ → ℕ → ℕ → List ℕ → ℕ → List ℕ → List ℕ → List ℕ → Outcome
taken_of k p f s from r o d =
    let b = table_of s in
    let yes = good k p f from r s in
    let m = marked k (from - 1) yes (marks_of s) in
    let s1 = kept (s_max b) k (from - 1) p f r s in
    let w = said_by yes k p f from r s in
    let x = delivered (ends_now b (not (eqb k 1)) m s1 (record_root r)) (result_in b m s1 (record_root r)) d in
    outcome (stepped (length w) x.kind x.size) (leaves yes k p f from r s) (put 0 w o) x.buffer

-- refused, or taken
unfoldable pub by_plan : Plan → List ℕ → ℕ → List ℕ → List ℕ → List ℕ → Outcome
by_plan (Refuse q a) s from r o d = refused q a s o d
by_plan (Take k p f) s from r o d = taken_of k p f s from r o d

-- a board's step: the state s, the record r from a board, the outgoing record buffer o, the delivery buffer d
unfoldable pub step_of : List ℕ → ℕ → List ℕ → List ℕ → List ℕ → Outcome
step_of s from r o d = by_plan (plan_of s from r o d) s from r o d
