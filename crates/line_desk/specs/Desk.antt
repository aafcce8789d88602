-- A board that holds a state of bytes and is lent two buffers, for a record to put out and for a delivery, whatever it broadcasts.
use Rattle.std.specs.Prelude.{ℕ, zero, suc, ◌≤◌, List, Bool, true, false, ◌&&◌, length, leb, eqb}
use Rattle.std.proofs.Math.Option.{Option, some, none}
use Rattle.octets.specs.Bytes.{pick, part}
use Rattle.board.specs.Started.{Begun}
use Rattle.board_step.specs.Step.{Outcome}
use Rattle.line.specs.Bytes.{AfterCall, Calls}

-- what a board holds: its state, and the outgoing record buffer and the delivery buffer that its firmware lends now
pub record Desk : Type 0 where
  pub state : List ℕ
  pub out : List ℕ
  pub delivery : List ℕ

-- its firmware lends two other buffers, of whatever contents
pub record Lend : Type 0 where
  pub out : List ℕ
  pub delivery : List ℕ

-- the buffers with which the next step is taken
abbrev pub lends : Desk → Lend → Bool → Desk
lends d l true = record { state = d.state; out = l.out; delivery = l.delivery }
lends d l false = d

-- the record put out, by the answer's record length: the first so many bytes of the outgoing buffer
abbrev pub record_in : ℕ → List ℕ → Option (List ℕ)
record_in zero o = none
record_in (suc len) o = some (part 0 (suc len) o)

-- the record put out in what a step leaves, "meant for all n boards"
abbrev pub put_in : Outcome → Option (List ℕ)
put_in w = record_in w.answer.record_length w.out

-- A kind of such boards, by the definitions that the contracts of its start and its step cite.
pub record BoardKind : Type 1 where
  pub Result : Type 0
  pub state_room : ℕ  -- so many bytes are long enough
  pub out_room : ℕ
  pub delivery_room : ℕ
  pub start : ℕ → List ℕ → Begun  -- of the board with this number, in the state buffer lent
  pub step : List ℕ → ℕ → List ℕ → List ℕ → List ℕ → Outcome  -- the state, the record from the board with this number, the two buffers
  pub given : Outcome → Option Result  -- the delivery in what a step leaves

module _ (K : BoardKind) where
  -- "with buffers long enough"; shorter ones are not lent
  abbrev pub long_enough : Lend → Bool
  long_enough l = leb K.out_room (length l.out) && leb K.delivery_room (length l.delivery)

  -- what a step leaves of the three buffers, puts out and delivers
  abbrev pub left_in : Outcome → AfterCall Desk K.Result
  left_in w = record { desk = record { state = w.state; out = w.out; delivery = w.delivery }; put = λ k. put_in w; given = K.given w }

  -- "starts once": board j, with the buffers that it is lent
  unfoldable pub begin : ℕ → Desk → Option Desk
  begin j d =
      pick (eqb (K.start j d.state).number 0)
      (some (record { state = (K.start j d.state).state; out = d.out; delivery = d.delivery })) none

  -- the board, by its calls: it "takes every record handed to it through this step", and is lent other buffers
  abbrev pub desk_board : Calls
  desk_board = record {
    Desk = Desk;
    Order = Lend;
    Result = K.Result;
    start = begin;
    step = λ d i r. left_in (K.step d.state i r d.out d.delivery);
    obey = λ d l. record { desk = lends d l (long_enough l); put = λ k. none; given = none };
  }

  -- "buffers long enough", before a start
  pub record Roomy (d : Desk) : Type 0 where
    pub state : K.state_room ≤ length d.state
    pub out : K.out_room ≤ length d.out
    pub delivery : K.delivery_room ≤ length d.delivery
