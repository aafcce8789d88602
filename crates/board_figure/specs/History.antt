-- Figure 5 over a board's whole history: which of the records handed over are messages, and the party that the board is to be.
use Rattle.std.specs.Prelude.{◌≡◌, ℕ, ◌<◌, List, true, false, length}
use Rattle.std.proofs.Math.Option.{Option, none, some}
use Rattle.table.specs.Table.{s_max, is_board}
use Rattle.table.specs.declared.Table.{Table}
use Rattle.code.specs.Code.{All, Byte}
use Rattle.record.specs.Form.{Read, Form, Fault, out_bytes, parse}
use Rattle.board_step.specs.Step.{step_of}
use Rattle.figure.specs.Run.{Handed, Party}
use Rattle.board_figure.specs.Figure.{Message, Figure, receive, Branch}
use Rattle.board_figure.specs.Shown.{message_of, as_record}

-- what is handed over is a string of bytes
abbrev pub OfBytes : Handed → Type 0
OfBytes h = All Byte h.bytes

-- the message that a record r is, by what was read of it
unfoldable pub read_as : Read → List ℕ → Option Message
read_as (Fault why at) r = none
read_as (Form k p f) r = some (message_of k p f r)

-- h is the message m of a party
pub record Means (b : Table) (h : Handed) (m : Message) : Type 0 where
  pub party : is_board b h.from ≡ true
  pub reads : read_as (parse h.bytes) h.bytes ≡ some m

-- h is no message that figure 5 receives, by the number and the offset that it is refused with
pub data NoMessage (b : Table) (h : Handed) : ℕ → ℕ → Type 0 where
  -- 2, "a lent buffer shorter than needed": no step is taken with it
  short_out : length h.out < out_bytes → NoMessage b h 2 0
  short_delivery : length h.delivery < b.longest → NoMessage b h 2 0
  -- 4, "board number .. not in 1..n": it comes from no party
  no_party : is_board b h.from ≡ false → NoMessage b h 4 0
  -- 20 to 25 and 7, departure: "a malformed record or a fragment above s_max is refused"
  malformed : (why at : ℕ) → parse h.bytes ≡ Fault why at → NoMessage b h why at
  too_long : (k p f : ℕ) → parse h.bytes ≡ Form k p f → s_max b < f → NoMessage b h 7 0

-- figure 5's party P_own with the table b, and a board; a record refused with 6, 8 or 9 is a message received without effect
abbrev pub board_party : Table → ℕ → Party
board_party b own = record {
  At = Figure;
  Message = Message;
  Result = Option (List ℕ);
  receive = receive b;
  Branch = Branch b own;
  Means = Means b;
  NoMessage = NoMessage b;
  as_record = as_record;
  as_delivery = λ x. x;
  step = λ s h. step_of s h.from h.bytes h.out h.delivery;
}
