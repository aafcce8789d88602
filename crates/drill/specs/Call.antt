-- What the call of a drill answers and leaves in every buffer lent, for every input.
use Rattle.std.specs.Prelude.{ℕ, List, Bool, ◌||◌, ltb, length}
use Rattle.record.specs.Form.{out_bytes}
use Rattle.octets.specs.Bytes.{pick, put}
use Rattle.refusal.specs.Answers.{sized}
use Rattle.refusal.specs.declared.Sized.{Sized}
use Rattle.drill_boards.specs.Held.{zeros}
use Rattle.drill.specs.Drill.{drill_of}

-- the buffers lent: the message's, the boards' states, what they have put out, the record handed over, the record put out, the delivery's;
-- and the text
pub record Lent : Type 0 where
  pub message : List ℕ
  pub states : List ℕ
  pub kept : List ℕ
  pub handed : List ℕ
  pub out : List ℕ
  pub delivery : List ℕ
  pub text : List ℕ

-- the seven buffers, as one
abbrev pub lent : List ℕ → List ℕ → List ℕ → List ℕ → List ℕ → List ℕ → List ℕ → Lent
lent message states kept handed out delivery text =
    record { message = message; states = states; kept = kept; handed = handed; out = out; delivery = delivery; text = text }

-- the answer, with how many bytes are printed, and the buffers after the call
pub record DrillOut : Type 0 where
  pub answer : Sized
  pub left : Lent

-- the answer and the buffers, as one
abbrev pub drill_out : Sized → Lent → DrillOut
drill_out x b = record { answer = x; left = b }

-- 2, "a lent buffer shorter than needed": 64 bytes for a message; 7 × 5,084 for states; 14 × 1,024 for what is put out; 16,619 for a record
-- handed over and for one put out; 64 for a delivery; the heading, 1,000 lines of at most 154 bytes and a bad line for the text
unfoldable pub drill_short : Lent → Bool
drill_short b =
    ltb (length b.message) 64 || (ltb (length b.states) 35588 || (ltb (length b.kept) 14336 || (ltb (length b.handed) out_bytes
    || (ltb (length b.out) out_bytes || (ltb (length b.delivery) 64 || ltb (length b.text) 154051)))))

-- the text begins with all that the drill prints; the other buffers are clean as far as they are needed
unfoldable pub drill_left_by : List ℕ → Lent → Lent
drill_left_by input b =
    lent (put 0 (zeros 64) b.message) (put 0 (zeros 35588) b.states) (put 0 (zeros 14336) b.kept) (put 0 (zeros out_bytes) b.handed)
    (put 0 (zeros out_bytes) b.out) (put 0 (zeros 64) b.delivery) (put 0 (drill_of input) b.text)

-- the call, whole
unfoldable pub call_of : List ℕ → Lent → DrillOut
call_of input b = pick (drill_short b) (drill_out (sized 2 0) b) (drill_out (sized 0 (length (drill_of input))) (drill_left_by input b))
