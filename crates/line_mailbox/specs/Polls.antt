-- A line whose boards empty whole mailboxes, take single records, or both (document 02, request 1), and what its boards put out, deliver and take.
use Rattle.std.specs.Prelude.{ℕ, ◌≡◌, ◌⊎◌, Bool, ◌&&◌, T, eqb}
use mathlib.Core.List.{List, [], ◌∷◌, ◌++◌, Memᴰ}
use Rattle.std.proofs.Math.Option.{Option, some, none}
use Rattle.octets.specs.Bytes.{pick}
use Rattle.table.specs.declared.Table.{Table}
use Rattle.mailbox.specs.Items.{Item, items_of}
use Rattle.board_mailbox.specs.Emptied.{Emptied, mailbox_of}
use Rattle.line.specs.Bytes.{bytes, next, puts, gives}
use Rattle.line.specs.Run.{Input, hand, Run, fresh, after}
use Rattle.line_desk.specs.Desk.{Desk, Lend, record_in, begin}
use Rattle.line_demand.specs.Boards.{fragment_kind, delivered_in, fragment_board, boards}

-- what the firmware lends with a mailbox: buffers for the answers, for an echo and for a vote
pub record Trays : Type 0 where
  pub answers : List ℕ
  pub echo : List ℕ
  pub vote : List ℕ

-- A history of such a line: all boards are started; or a history, and then a record came to the board with this number, or an order of its
-- firmware; or that board emptied a mailbox.
pub data Polls : Type 0 where
  started : Polls
  took : Polls → ℕ → Input Lend (List ℕ) → Polls
  polled : Polls → ℕ → List ℕ → Trays → Polls

-- the call, by a board that holds d
abbrev pub mailbox_in : Desk → List ℕ → Trays → Emptied
mailbox_in d box t = mailbox_of d.state box t.answers t.echo t.vote d.delivery

-- what a board holds after the call. What is no string of bytes cannot be handed over; a board that is not started takes nothing.
unfoldable pub emptied_to : Option Desk → List ℕ → Trays → Option Desk
emptied_to none box t = none
emptied_to (some d) box t =
    some (pick (bytes box) (record { state = (mailbox_in d box t).state; out = d.out; delivery = (mailbox_in d box t).delivery }) d)

-- one or none, as a list
abbrev pub one_of : {X : Type 0} → Option X → List X
one_of none = []
one_of (some x) = x ∷ []

-- the records that stand in the echo's and the vote's buffer, by their lengths
abbrev pub records_in : Emptied → List (List ℕ)
records_in x = one_of (record_in x.answer.echo_length x.echo) ++ one_of (record_in x.answer.vote_length x.vote)

-- the records that the call puts out
unfoldable pub poll_puts : Option Desk → List ℕ → Trays → List (List ℕ)
poll_puts none box t = []
poll_puts (some d) box t = pick (bytes box) (records_in (mailbox_in d box t)) []

-- what it delivers
unfoldable pub poll_gives : Option Desk → List ℕ → Trays → Option (Option (List ℕ))
poll_gives none box t = none
poll_gives (some d) box t =
    let x = mailbox_in d box t in
    pick (bytes box) (delivered_in x.answer.delivery x.answer.message_length x.delivery) none

-- the items that it takes: all, or none if it is refused
unfoldable pub items_taken : Option Desk → List ℕ → Trays → List Item
items_taken none box t = []
items_taken (some d) box t = pick (bytes box && eqb (mailbox_in d box t).answer.number 0) (items_of box) []

module _ (b : Table) (lent : ℕ → Desk) where
  -- what board j holds at the end of a history
  unfoldable pub desk_at : Polls → ℕ → Option Desk
  desk_at started j = begin (fragment_kind b) j (lent j)
  desk_at (took p k x) j = pick (eqb k j) (next (fragment_board b) (desk_at p j) x) (desk_at p j)
  desk_at (polled p k box t) j = pick (eqb k j) (emptied_to (desk_at p j) box t) (desk_at p j)

  -- board i put the record ρ out, for all boards
  pub data PutBy (i : ℕ) (ρ : List ℕ) : Polls → Type 0 where
    step : {p : Polls} {x : Input Lend (List ℕ)} (k : ℕ) → puts (fragment_board b) (desk_at p i) x k ≡ some ρ → PutBy i ρ (took p i x)
    poll : {p : Polls} {box : List ℕ} {t : Trays} → Memᴰ ρ (poll_puts (desk_at p i) box t) → PutBy i ρ (polled p i box t)
    before_take : {p : Polls} {k : ℕ} {x : Input Lend (List ℕ)} → PutBy i ρ p → PutBy i ρ (took p k x)
    before_poll : {p : Polls} {k : ℕ} {box : List ℕ} {t : Trays} → PutBy i ρ p → PutBy i ρ (polled p k box t)

  -- board j delivered d
  pub data GaveBy (j : ℕ) (d : Option (List ℕ)) : Polls → Type 0 where
    step : {p : Polls} {x : Input Lend (List ℕ)} → gives (fragment_board b) (desk_at p j) x ≡ some d → GaveBy j d (took p j x)
    poll : {p : Polls} {box : List ℕ} {t : Trays} → poll_gives (desk_at p j) box t ≡ some d → GaveBy j d (polled p j box t)
    before_take : {p : Polls} {k : ℕ} {x : Input Lend (List ℕ)} → GaveBy j d p → GaveBy j d (took p k x)
    before_poll : {p : Polls} {k : ℕ} {box : List ℕ} {t : Trays} → GaveBy j d p → GaveBy j d (polled p k box t)

  -- board j took the record ρ from board i, by itself or in a mailbox
  pub data TookBy (j i : ℕ) (ρ : List ℕ) : Polls → Type 0 where
    step : {p : Polls} → TookBy j i ρ (took p j (hand i ρ))
    poll : {p : Polls} {box : List ℕ} {t : Trays} → Memᴰ (record { board = i; bytes = ρ }) (items_taken (desk_at p j) box t) → TookBy j i ρ (polled p j box t)
    before_take : {p : Polls} {k : ℕ} {x : Input Lend (List ℕ)} → TookBy j i ρ p → TookBy j i ρ (took p k x)
    before_poll : {p : Polls} {k : ℕ} {box : List ℕ} {t : Trays} → TookBy j i ρ p → TookBy j i ρ (polled p k box t)

  -- the run in which board k is handed these records singly, in order
  unfoldable pub hand_each : Run (boards b lent) → ℕ → List Item → Run (boards b lent)
  hand_each r k [] = r
  hand_each r k (x ∷ xs) = hand_each (after r k (hand x.board x.bytes)) k xs

  -- the run in which every item of every mailbox is handed over singly
  unfoldable pub singly : Polls → Run (boards b lent)
  singly started = fresh
  singly (took p k x) = after (singly p) k x
  singly (polled p k box t) = hand_each (singly p) k (items_taken (desk_at p k) box t)

  module _ (keeps : ℕ → Bool) (Sent : ℕ → ℕ → List ℕ → Type 0) where
    -- put out by that board, in an earlier call, or by the sender
    abbrev pub GenuineBy : Polls → ℕ → ℕ → List ℕ → Type 0
    GenuineBy p i j ρ = PutBy i ρ p ⊎ Sent i j ρ

    -- every record between rule-keeping boards was genuine when it was handed over, by itself or in a mailbox
    pub data FairBy : Polls → Type 0 where
      none_yet : FairBy started
      one : {p : Polls} {j : ℕ} {x : Input Lend (List ℕ)} → FairBy p
          → ((i : ℕ) (ρ : List ℕ) → x ≡ hand i ρ → T (keeps i) → T (keeps j) → GenuineBy p i j ρ) → FairBy (took p j x)
      all : {p : Polls} {j : ℕ} {box : List ℕ} {t : Trays} → FairBy p
          → ((x : Item) → Memᴰ x (items_taken (desk_at p j) box t) → T (keeps x.board) → T (keeps j) → GenuineBy p x.board j x.bytes) → FairBy (polled p j box t)

    -- every record between rule-keeping boards has been handed over
    unfoldable pub OverBy : Polls → Type 0
    OverBy p = (i j : ℕ) (ρ : List ℕ) → T (keeps i) → T (keeps j) → GenuineBy p i j ρ → TookBy j i ρ p
