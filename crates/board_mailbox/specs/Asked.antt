-- What the functions of `board_mailbox` ask of one another.
use Rattle.std.specs.Prelude.{ℕ, ◌≤◌, List, eqb, length}
use Rattle.octets.specs.Bytes.{pick}
use Rattle.record.specs.Form.{vote_bytes}
use Rattle.board.specs.Planned.{Plan, Refuse, Take, BuffersDo}
use Rattle.board_mailbox.specs.declared.Mailed.{Mailed}

-- the number by which a plan refuses, or 0
unfoldable pub refusal_in : Plan → ℕ
refusal_in (Refuse q a) = q
refusal_in (Take k p f) = 0

-- a state and buffers that no refusal before the items applies to
pub record Open (s e v d : List ℕ) : Type 0 where
  pub ready : BuffersDo s (length e) (length d)
  pub vote : vote_bytes ≤ length v

-- an answer with the length of an echo put out; 0 is none
unfoldable pub filed_echo : ℕ → Mailed → Mailed
filed_echo len m = pick (eqb len 0) m (record {
  number = m.number;
  echo_length = len;
  vote_length = m.vote_length;
  delivery = m.delivery;
  message_length = m.message_length;
})

-- with the length of a vote
unfoldable pub filed_vote : ℕ → Mailed → Mailed
filed_vote len m = pick (eqb len 0) m (record {
  number = m.number;
  echo_length = m.echo_length;
  vote_length = len;
  delivery = m.delivery;
  message_length = m.message_length;
})

-- with a delivery and its length
unfoldable pub filed_delivery : ℕ → ℕ → Mailed → Mailed
filed_delivery kind len m = pick (eqb kind 0) m (record {
  number = m.number;
  echo_length = m.echo_length;
  vote_length = m.vote_length;
  delivery = kind;
  message_length = len;
})
