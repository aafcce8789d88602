-- A line of boards of bytes, whatever they are: each starts once, and then takes what is handed to it, and what its firmware orders, by its calls.
use Rattle.std.specs.Prelude.{ℕ, Bool, true, ◌&&◌, List, [], ◌∷◌, ltb}
use Rattle.std.proofs.Math.Option.{Option, some, none}
use Rattle.octets.specs.Bytes.{pick}
use Rattle.line.specs.Run.{Machine, Input, hand, tell}

-- whether a list of numbers is a string of bytes: nothing else can be handed over
unfoldable pub bytes : List ℕ → Bool
bytes [] = true
bytes (x ∷ xs) = ltb x 256 && bytes xs

-- what a call leaves: the board's buffers, the record that it puts out for the board with this number, and what it delivers
pub record AfterCall (Desk Result : Type 0) : Type 0 where
  pub desk : Desk
  pub put : ℕ → Option (List ℕ)
  pub given : Option Result

-- A kind of board, by its calls.
pub record Calls : Type 1 where
  pub Desk : Type 0  -- what a board holds: its state, and the buffers that its firmware lends now
  pub Order : Type 0  -- what its firmware orders, besides handing records over
  pub Result : Type 0
  pub start : ℕ → Desk → Option Desk  -- of the board with this number; none if it is refused
  pub step : Desk → ℕ → List ℕ → AfterCall Desk Result  -- the record from the board with this number
  pub obey : Desk → Order → AfterCall Desk Result

module _ (K : Calls) where
  -- a call that does nothing
  abbrev pub untouched : K.Desk → AfterCall K.Desk K.Result
  untouched d = record { desk = d; put = λ k. none; given = none }

  -- What is no string of bytes cannot be handed over.
  unfoldable pub called : K.Desk → Input K.Order (List ℕ) → AfterCall K.Desk K.Result
  called d (hand i r) = pick (bytes r) (K.step d i r) (untouched d)
  called d (tell o) = K.obey d o

  -- what a board holds after a call. A board whose start was refused takes nothing.
  unfoldable pub next : Option K.Desk → Input K.Order (List ℕ) → Option K.Desk
  next none x = none
  next (some d) x = some (called d x).desk

  -- what a started board's call puts out for board k
  unfoldable pub puts : Option K.Desk → Input K.Order (List ℕ) → ℕ → Option (List ℕ)
  puts none x k = none
  puts (some d) x k = (called d x).put k

  -- what a started board's call delivers
  unfoldable pub gives : Option K.Desk → Input K.Order (List ℕ) → Option K.Result
  gives none x = none
  gives (some d) x = (called d x).given

  -- the line of such boards, each of which "starts once"; lent: the buffers of each board before its start, of whatever contents
  abbrev pub byte_line : (ℕ → K.Desk) → Machine
  byte_line lent = record {
    State = Option K.Desk;
    Order = K.Order;
    Rec = List ℕ;
    Result = K.Result;
    start = λ j. K.start j (lent j);
    next = next;
    puts = puts;
    gives = gives;
  }
