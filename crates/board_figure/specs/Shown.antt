-- Figure 5's party in a board's bytes, and its messages as records.
use Rattle.std.specs.Prelude.{ℕ, ◌/◌, List, [], length, eqb}
use Rattle.std.proofs.Math.Option.{none}
use Rattle.octets.specs.Bytes.{pick, part, two_at}
use Rattle.octets.specs.Sets.{has}
use Rattle.table.specs.Table.{s_max}
use Rattle.table.specs.declared.Table.{Table}
use Rattle.record.specs.Form.{record_of}
use Rattle.state.specs.State.{table_of, marks_of, len_at, echo_at, vote_at, fragment_at}
use Rattle.state.specs.declared.Marks.{Marks}
use Rattle.board.specs.Stepped.{record_root, record_path, record_fragment}
use Rattle.figure.specs.Received.{shown}
use Rattle.board_figure.specs.Figure.{Piece, Message, send, echo, vote, Echo, Figure}

-- what the bytes s keep of the echo of P_(i + 1), "its root and fragment"; max is s_max, usable the set of those with a correct path
abbrev pub kept_echo : ℕ → ℕ → List ℕ → ℕ → Echo
kept_echo max usable s i = record { root = part (echo_at i) 32 s; fragment = part (fragment_at max i) (two_at s (len_at i)) s; usable = has usable i }

-- and of its vote, "its root"
abbrev pub kept_vote : List ℕ → ℕ → List ℕ
kept_vote s i = part (vote_at i) 32 s

-- the figure's party in the marks m and the bytes s: a send is acted on at once, so none is kept
abbrev pub figure_in : Table → Marks → List ℕ → Figure
figure_in b m s = record {
  acquired = m.acquired;
  voted = m.voted;
  output = m.output;
  done = m.done;
  sent = none;
  echo_of = shown m.echoes (kept_echo (s_max b) m.usable s);
  vote_of = shown m.votes (kept_vote s);
}

abbrev pub figure_of : List ℕ → Figure
figure_of s = figure_in (table_of s) (marks_of s) s

-- the message that a record r of kind k is, with p path nodes and f fragment bytes
abbrev pub piece_of : ℕ → ℕ → List ℕ → Piece
piece_of p f r = record { root = record_root r; path = record_path p r; fragment = record_fragment p f r }

unfoldable pub message_of : ℕ → ℕ → ℕ → List ℕ → Message
message_of k p f r = pick (eqb k 1) (send (piece_of p f r)) (pick (eqb k 2) (echo (piece_of p f r)) (vote (record_root r)))

-- the record that a message is
abbrev pub as_record : Message → List ℕ
as_record (send p) = record_of 1 p.root (length p.path / 32) p.path p.fragment
as_record (echo p) = record_of 2 p.root (length p.path / 32) p.path p.fragment
as_record (vote r) = record_of 3 r 0 [] []
