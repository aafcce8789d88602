-- Figure 4's party in a notice board's bytes, and its messages as records.
use Rattle.std.specs.Prelude.{ℕ, List, eqb}
use Rattle.std.proofs.Math.Option.{none}
use Rattle.octets.specs.Bytes.{pick}
use Rattle.notice.specs.Form.{notice_record, notice_in}
use Rattle.notice.specs.State.{heard_in, notice_kept}
use Rattle.notice.specs.declared.Heard.{Heard}
use Rattle.figure.specs.Received.{shown}
use Rattle.notice_figure.specs.Figure.{Message, send, echo, vote, Figure}

-- the figure's party in what was heard, m, and in the bytes s, which keep of an echo and of a vote the notice: a send is acted on at once, so none
-- is kept
abbrev pub figure_in : Heard → List ℕ → Figure
figure_in m s = record {
  acquired = m.acquired;
  voted = m.voted;
  done = m.done;
  sent = none;
  echo_of = shown m.echoes (notice_kept s 2);
  vote_of = shown m.votes (notice_kept s 3);
}

abbrev pub figure_of : List ℕ → Figure
figure_of s = figure_in (heard_in s) s

-- the message that a record r of sort k (1 a send, 2 an echo, 3 a vote) is, with f notice bytes
unfoldable pub message_of : ℕ → ℕ → List ℕ → Message
message_of k f r = pick (eqb k 1) (send (notice_in f r)) (pick (eqb k 2) (echo (notice_in f r)) (vote (notice_in f r)))

-- the record that a message is: "Kinds 4, 5 and 6"
abbrev pub as_record : Message → List ℕ
as_record (send m) = notice_record 4 m
as_record (echo m) = notice_record 5 m
as_record (vote m) = notice_record 6 m
