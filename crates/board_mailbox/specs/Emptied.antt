-- Document 02, request 1, "A whole mailbox in one call": what it answers and what it leaves in every buffer lent. The quoted words are that
-- request's. A step is `step_of`, folded over the items; nothing of it is written again here.
-- Two wrong programs that this rules out: one that stops at the first item refused, and one that writes a vote where the echo stands.
use Rattle.std.specs.Prelude.{ℕ, zero, suc, ◌+◌, List, [], ◌∷◌, Bool, not, ◌||◌, length, get_or, ltb, eqb}
use Rattle.octets.specs.Bytes.{pick, part, put}
use Rattle.mailbox.specs.Items.{Item, count_of, framed, items_of}
use Rattle.record.specs.Form.{vote_bytes}
use Rattle.board.specs.Planned.{after_buffers}
use Rattle.board_step.specs.Step.{Outcome, step_of}
use Rattle.board_mailbox.specs.declared.Mailed.{Mailed}

-- a number and nothing else: no echo, no vote, no delivery
abbrev pub only_number : ℕ → Mailed
only_number q = record { number = q; echo_length = 0; vote_length = 0; delivery = 0; message_length = 0 }

-- what a mailbox leaves: its answer, and every buffer lent to be written
pub record Emptied : Type 0 where
  pub answer : Mailed
  pub state : List ℕ
  pub answers : List ℕ
  pub echo : List ℕ
  pub vote : List ℕ
  pub delivery : List ℕ

-- the answer and the five buffers, as one
abbrev pub emptied : Mailed → List ℕ → List ℕ → List ℕ → List ℕ → List ℕ → Emptied
emptied x s a e v d = record { answer = x; state = s; answers = a; echo = e; vote = v; delivery = d }

-- the record that a step put out, none or so many bytes at the front of its outgoing buffer as it says
abbrev pub put_out_by : Outcome → List ℕ
put_out_by y = part 0 y.answer.record_length y.out

-- whether it is one of kind k: an echo is of kind 2, a vote of kind 3
abbrev pub is_put : ℕ → Outcome → Bool
is_put k y = eqb (get_or (put_out_by y) 0 0) k

-- whether a step delivers: a message, or void
abbrev pub delivers : Outcome → Bool
delivers y = not (eqb y.answer.delivery 0)

-- what is left once the step of item i has left y: "answers item by item", a byte each; an echo at the front of its buffer, a vote at the
-- front of its own; "final state .. and delivery"
unfoldable pub filed : ℕ → Outcome → Emptied → Emptied
filed i y x = record {
  answer = record {
    number = x.answer.number;
    echo_length = pick (is_put 2 y) y.answer.record_length x.answer.echo_length;
    vote_length = pick (is_put 3 y) y.answer.record_length x.answer.vote_length;
    delivery = pick (delivers y) y.answer.delivery x.answer.delivery;
    message_length = pick (delivers y) y.answer.message_length x.answer.message_length;
  };
  state = y.state;
  answers = put i (y.answer.number ∷ []) x.answers;
  echo = pick (is_put 2 y) (put 0 (put_out_by y) x.echo) x.echo;
  vote = pick (is_put 3 y) (put 0 (put_out_by y) x.vote) x.vote;
  delivery = y.delivery;
}

-- the step that an item is handed over to: the echo buffer is lent to it as the outgoing one
abbrev pub step_for : Item → Emptied → Outcome
step_for item x = step_of x.state item.board item.bytes x.echo x.delivery

-- item i, handed over by itself
unfoldable pub handed : ℕ → Item → Emptied → Emptied
handed i item x = filed i (step_for item x) x

-- "those of handing the items over singly, in order": from item i on
unfoldable pub handed_all : ℕ → List Item → Emptied → Emptied
handed_all i [] x = x
handed_all i (item ∷ rest) x = handed_all (i + 1) rest (handed i item x)

-- "16, the mailbox framing is broken or the answer buffer has fewer than one byte an item; it comes after 3 and 2 and before any item is looked
-- at": the number of the refusal, or 0. The buffer for a vote, v, is one that can be too short as well
unfoldable pub mailbox_refusal : List ℕ → List ℕ → List ℕ → List ℕ → List ℕ → List ℕ → ℕ
mailbox_refusal s box a e v d =
    after_buffers s (length e) (length d) (λ (q : ℕ). q)
    (pick (ltb (length v) vote_bytes) 2
    (pick (not (framed box) || ltb (length a) (count_of box)) 16 0))

-- refused and nothing written, or every item handed over
unfoldable pub mailbox_by : ℕ → List ℕ → List ℕ → List ℕ → List ℕ → List ℕ → List ℕ → Emptied
mailbox_by (suc q) s box a e v d = emptied (only_number (suc q)) s a e v d
mailbox_by zero s box a e v d = handed_all 0 (items_of box) (emptied (only_number 0) s a e v d)

-- a mailbox: the state s, the mailbox itself, and the buffers for answers, a, an echo, e, a vote, v, and a delivery, d
unfoldable pub mailbox_of : List ℕ → List ℕ → List ℕ → List ℕ → List ℕ → List ℕ → Emptied
mailbox_of s box a e v d = mailbox_by (mailbox_refusal s box a e v d) s box a e v d
