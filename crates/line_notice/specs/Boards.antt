-- A line of notice boards that are bytes: each runs `notice_start_of` once and then `notice_step_of`, the definitions that the contracts of start and step
-- cite.
use Rattle.std.specs.Prelude.{ℕ, zero, suc, ◌≤◌, ◌≡◌, List, true, length}
use Rattle.std.proofs.Math.Option.{Option, some, none}
use Rattle.octets.specs.Bytes.{part}
use Rattle.table.specs.declared.Table.{Table}
use Rattle.board_step.specs.Step.{Outcome}
use Rattle.notice.specs.Form.{notice_most, notice_out_bytes}
use Rattle.notice.specs.State.{notice_state_bytes}
use Rattle.notice_step.specs.Started.{notice_start_of}
use Rattle.notice_step.specs.Step.{notice_step_of}
use Rattle.notice_step.specs.Sent.{notice_send_of}
use Rattle.line.specs.Boards.{Board}
use Rattle.line.specs.Run.{Machine}
use Rattle.line.specs.Bytes.{bytes, byte_line}
use Rattle.line_desk.specs.Desk.{Desk, BoardKind, desk_board}

-- the delivery, by the answer's delivery (0 none) and message length: a notice, never void
abbrev pub notice_given : ℕ → ℕ → List ℕ → Option (List ℕ)
notice_given zero size d = none
notice_given (suc x) size d = some (part 0 size d)

-- in what a step leaves
abbrev pub notice_given_in : Outcome → Option (List ℕ)
notice_given_in w = notice_given w.answer.delivery w.answer.message_length w.delivery

-- "State: one fixed size, 8,352 bytes, for every n. Outgoing buffer 67 bytes, delivery 64."
abbrev pub notice_kind : Table → BoardKind
notice_kind b = record {
  Result = List ℕ;
  state_room = notice_state_bytes;
  out_room = notice_out_bytes;
  delivery_room = notice_most;
  start = notice_start_of b;
  step = notice_step_of;
  given = notice_given_in;
}

-- "n boards started fresh with one table"; lent: the buffers of each before its start, of whatever contents
abbrev pub notice_boards : Table → (ℕ → Desk) → Machine
notice_boards b lent = byte_line (desk_board (notice_kind b)) lent

-- a notice that can be sent: "0 to 64 bytes"
pub record Noticeable (v : List ℕ) : Type 0 where
  pub fits : length v ≤ notice_most
  pub bytes : bytes v ≡ true

-- A rule-keeping sender puts out its n records for one notice: the sender i calls for board j, with an outgoing buffer that is long enough, and ρ is
-- what the call leaves at the buffer's front. `notice_send_of` is what the contract of the sender's call cites; the call touches no board's state, so it
-- stands beside the run and is no order of it
pub record NoticeSends (b : Table) (v : List ℕ) (i j : ℕ) (ρ : List ℕ) : Type 0 where
  pub sender : i ≡ b.sender
  pub board : Board b.n j
  pub out : List ℕ
  pub room : notice_out_bytes ≤ length out
  pub is : ρ ≡ part 0 (notice_send_of b v j out).answer.length (notice_send_of b v j out).out
