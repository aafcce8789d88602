-- Figure 4 over a notice board's whole history: which of the records handed over are messages, and the party that the board is to be.
use Rattle.std.specs.Prelude.{◌≡◌, ℕ, ◌<◌, List, true, false, length}
use Rattle.std.proofs.Math.Option.{Option, none, some}
use Rattle.table.specs.Table.{is_board}
use Rattle.table.specs.declared.Table.{Table}
use Rattle.record.specs.Form.{Read, Form, Fault}
use Rattle.notice.specs.Form.{notice_most, notice_out_bytes, parse_notice, sort_of}
use Rattle.notice_step.specs.Step.{notice_step_of}
use Rattle.figure.specs.Run.{Handed, Party}
use Rattle.notice_figure.specs.Figure.{Message, Figure, receive, Branch}
use Rattle.notice_figure.specs.Shown.{message_of, as_record}

-- the message that a record r is, by what was read of it
unfoldable pub read_as : Read → List ℕ → Option Message
read_as (Fault why at) r = none
read_as (Form k p f) r = some (message_of (sort_of k) f r)

-- h is the message m of a party
pub record Means (b : Table) (h : Handed) (m : Message) : Type 0 where
  pub party : is_board b h.from ≡ true
  pub reads : read_as (parse_notice h.bytes) h.bytes ≡ some m

-- h is no message that figure 4 receives, by the number and the offset that it is refused with
pub data NoMessage (b : Table) (h : Handed) : ℕ → ℕ → Type 0 where
  -- 2, "a lent buffer shorter than needed": no step is taken with it
  short_out : length h.out < notice_out_bytes → NoMessage b h 2 0
  short_delivery : length h.delivery < notice_most → NoMessage b h 2 0
  -- 4, "board number .. not in 1..n": it comes from no party
  no_party : is_board b h.from ≡ false → NoMessage b h 4 0
  -- 20, 21, 24 and 25, departure: "a malformed record .. is refused"; 21: "a board of one kind of broadcast refuses the kinds of another"
  malformed : (why at : ℕ) → parse_notice h.bytes ≡ Fault why at → NoMessage b h why at

-- figure 4's party with the table b, and a notice board; a record refused with 6, 8 or 9 is a message received without effect
abbrev pub notice_party : Table → Party
notice_party b = record {
  At = Figure;
  Message = Message;
  Result = List ℕ;
  receive = receive b;
  Branch = Branch b;
  Means = Means b;
  NoMessage = NoMessage b;
  as_record = as_record;
  as_delivery = some;
  step = λ s h. notice_step_of s h.from h.bytes h.out h.delivery;
}
