-- A line of boards that are bytes: each runs `start_of` once and then `step_of`, the definitions that the contracts of start and step cite.
use Rattle.std.specs.Prelude.{ℕ, zero, suc, ◌≤◌, ◌≡◌, List, length}
use Rattle.std.proofs.Math.Option.{Option, some, none}
use Rattle.record.specs.Form.{out_bytes}
use Rattle.octets.specs.Bytes.{part}
use Rattle.table.specs.declared.Table.{Table}
use Rattle.state.specs.State.{state_size}
use Rattle.board.specs.Started.{start_of}
use Rattle.board_send.specs.Sent.{send_of}
use Rattle.board_step.specs.Step.{Outcome, step_of}
use Rattle.line.specs.Boards.{Board}
use Rattle.line.specs.Run.{Machine}
use Rattle.line.specs.Bytes.{Calls, byte_line}
use Rattle.line_desk.specs.Desk.{Desk, BoardKind, desk_board}

-- the delivery, by the answer's delivery (0 none, 1 a message, 2 void) and message length: none for void
abbrev pub delivered_in : ℕ → ℕ → List ℕ → Option (Option (List ℕ))
delivered_in zero size d = none
delivered_in (suc zero) size d = some (some (part 0 size d))
delivered_in (suc (suc x)) size d = some none

-- "the delivery (none, message with length, void)" in what a step leaves
abbrev pub given_in : Outcome → Option (Option (List ℕ))
given_in w = delivered_in w.answer.delivery w.answer.message_length w.delivery

-- A board of the fragment broadcast. "A state buffer needs 4,608 + n × s_max bytes; an outgoing record buffer 16,619; a delivery buffer L"
abbrev pub fragment_kind : Table → BoardKind
fragment_kind b = record {
  Result = Option (List ℕ);
  state_room = state_size b;
  out_room = out_bytes;
  delivery_room = b.longest;
  start = start_of b;
  step = step_of;
  given = given_in;
}

-- by its calls
abbrev pub fragment_board : Table → Calls
fragment_board b = desk_board (fragment_kind b)

-- "n boards started fresh with one table"; lent: the buffers of each before its start, of whatever contents
abbrev pub boards : Table → (ℕ → Desk) → Machine
boards b lent = byte_line (fragment_board b) lent

-- "A rule-keeping sender puts out its n send records for one message": the sender i calls for board j, with an outgoing buffer that is long enough, and
-- ρ is what the call leaves at the buffer's front. `send_of` is what the contract of the sender's call cites; the call touches no board's state, so it
-- stands beside the run and is no order of it
pub record Sends (b : Table) (m : List ℕ) (i j : ℕ) (ρ : List ℕ) : Type 0 where
  pub sender : i ≡ b.sender
  pub board : Board b.n j
  pub out : List ℕ
  pub room : out_bytes ≤ length out
  pub is : ρ ≡ part 0 (send_of b m j out).answer.length (send_of b m j out).out
