-- A run of a line of boards: what was handed to each of them, in the order of time.
use Rattle.std.specs.Prelude.{ℕ, Bool, ◌≡◌, ◌⊎◌, T, eqb}
use Rattle.std.proofs.Math.Option.{Option, some}
use Rattle.octets.specs.Bytes.{pick}

-- What comes to a board: a record, with the number of the board that it comes from, or an order of its own firmware.
pub data Input (Order Rec : Type 0) : Type 0 where
  hand : ℕ → Rec → Input Order Rec
  tell : Order → Input Order Rec

-- A kind of board, as its step defines it. A refusal leaves the state, puts nothing out and delivers nothing.
pub record Machine : Type 1 where
  pub State : Type 0
  pub Order : Type 0
  pub Rec : Type 0
  pub Result : Type 0
  pub start : ℕ → State  -- of the board with this number
  pub next : State → Input Order Rec → State
  pub puts : State → Input Order Rec → ℕ → Option Rec  -- the record put out for the board with this number
  pub gives : State → Input Order Rec → Option Result  -- what is delivered

-- what comes to a board of this kind
abbrev pub In : Machine → Type 0
In M = Input M.Order M.Rec

module _ (M : Machine) where
  -- Document 01: "A board keeps the rules if it starts once, takes every record handed to it through this step".
  -- A run is nothing yet, or a run and one thing more that came to the board with this number.
  pub data Run : Type 0 where
    fresh : Run
    after : Run → ℕ → In M → Run

  -- the state of board j at the end of a run ("keeps its state untouched between steps")
  unfoldable pub state : Run → ℕ → M.State
  state fresh j = M.start j
  state (after r k x) j = pick (eqb k j) (M.next (state r j) x) (state r j)

  -- document 01: "handed over means taken through the receiver's step at least once after its start"
  pub data Took (j : ℕ) (x : In M) : Run → Type 0 where
    now : {r : Run} → Took j x (after r j x)
    then : {r : Run} {k : ℕ} {y : In M} → Took j x r → Took j x (after r k y)

  -- board i put the record ρ out for board j ("hands on what is put out")
  pub data Put (i j : ℕ) (ρ : M.Rec) : Run → Type 0 where
    now : {r : Run} {x : In M} → M.puts (state r i) x j ≡ some ρ → Put i j ρ (after r i x)
    then : {r : Run} {k : ℕ} {y : In M} → Put i j ρ r → Put i j ρ (after r k y)

  -- board j delivered d
  pub data Delivered (j : ℕ) (d : M.Result) : Run → Type 0 where
    now : {r : Run} {x : In M} → M.gives (state r j) x ≡ some d → Delivered j d (after r j x)
    then : {r : Run} {k : ℕ} {y : In M} → Delivered j d r → Delivered j d (after r k y)

  -- document 01: "Genuine means put out by that board for that receiver". Sent i j ρ: i puts ρ out for j in no step, as a sender does.
  abbrev pub Genuine : (ℕ → ℕ → M.Rec → Type 0) → Run → ℕ → ℕ → M.Rec → Type 0
  Genuine Sent r i j ρ = Put i j ρ r ⊎ Sent i j ρ

  -- keeps: the boards that keep the rules. "Between rule-keeping boards" includes a board's records to itself, so i and j may be one board.
  module _ (keeps : ℕ → Bool) (Sent : ℕ → ℕ → M.Rec → Type 0) where
    -- every record between rule-keeping boards was genuine when it was handed over
    pub data Fair : Run → Type 0 where
      begun : Fair fresh
      went : {r : Run} {j : ℕ} {x : In M} → Fair r
          → ((i : ℕ) (ρ : M.Rec) → x ≡ hand i ρ → T (keeps i) → T (keeps j) → Genuine Sent r i j ρ)
          → Fair (after r j x)

    -- every record between rule-keeping boards has been handed over
    unfoldable pub Over : Run → Type 0
    Over r = (i j : ℕ) (ρ : M.Rec) → T (keeps i) → T (keeps j) → Genuine Sent r i j ρ → Took j (hand i ρ) r
