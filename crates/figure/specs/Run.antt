-- A figure over a board's whole history: records handed over one after the other, accepted or refused, and what the party does at each.
use Rattle.std.specs.Prelude.{◌≡◌, ℕ, List, [], ◌∷◌, Bool, true, ◌||◌, eqb}
use Rattle.std.proofs.Math.Option.{Option}
use Rattle.board_step.specs.Step.{Outcome, refused}
use Rattle.figure.specs.Fires.{Still, Fires}
use Rattle.figure.specs.Acts.{Act, answered}

-- a record handed over, the board that it comes from, and the outgoing and the delivery buffer lent with it
pub record Handed : Type 0 where
  pub from : ℕ
  pub bytes : List ℕ
  pub out : List ℕ
  pub delivery : List ℕ

-- 6, 8 and 9: "send from a board other than S", "board done, or a send in the output stage", "second send, second echo or second vote"
abbrev pub passed_over : ℕ → Bool
passed_over q = eqb q 6 || (eqb q 8 || eqb q 9)

-- A figure's party, and a board that is to do what it does.
pub record Party : Type 1 where
  pub At : Type 0  -- where the party stands: its variables, and what it has received
  pub Message : Type 0
  pub Result : Type 0  -- what it outputs
  pub receive : ℕ → Message → At → At  -- a message of the party with this number
  pub Branch : At → List (Act Message Result) → At → Type 0
  pub Means : Handed → Message → Type 0  -- what is handed over is this message of a party
  pub NoMessage : Handed → ℕ → ℕ → Type 0  -- it is none, by the number and the offset that it is refused with
  pub as_record : Message → List ℕ  -- the record that a message is
  pub as_delivery : Result → Option (List ℕ)  -- the message that a result delivers, or none for void
  pub step : List ℕ → Handed → Outcome  -- the board's step, of a state

-- the outcome z of a step with h is what the acts say
abbrev pub Answers : (p : Party) → List (Act p.Message p.Result) → Handed → Outcome → Type 0
Answers p es h z = z ≡ answered p.as_record p.as_delivery es z.state h.out h.delivery

-- What a board in state s makes of the records hs is a run of the party p from x: the party receives every message there is among them, refused
-- or not, and what it sends and outputs is what the board answers.
pub data Run (p : Party) : p.At → List ℕ → List Handed → Type 0 where
  ends : {x : p.At} {s : List ℕ} → Run p x s []
  -- taken: the message is received, every branch that is enabled fires until none is, and what is sent and output on the way, whichever
  -- branch goes first, is the answer
  takes : {x y : p.At} {s : List ℕ} {h : Handed} {hs : List Handed} {m : p.Message} {es : List (Act p.Message p.Result)} → p.Means h m
      → Fires p.Branch (p.receive h.from m x) es y
      → ((fs : List (Act p.Message p.Result)) (z : p.At) → Fires p.Branch (p.receive h.from m x) fs z → fs ≡ es)
      → Answers p es h (p.step s h)
      → Run p y (p.step s h).state hs → Run p x s (h ∷ hs)
  -- refused with 6, 8 or 9: the message is received, and no branch is enabled
  passes : {x : p.At} {s : List ℕ} {h : Handed} {hs : List Handed} {m : p.Message} {q : ℕ} → p.Means h m → passed_over q ≡ true
      → Still p.Branch (p.receive h.from m x)
      → p.step s h ≡ refused q 0 s h.out h.delivery
      → Run p (p.receive h.from m x) s hs → Run p x s (h ∷ hs)
  -- refused with another number: it is no message
  misses : {x : p.At} {s : List ℕ} {h : Handed} {hs : List Handed} {q a : ℕ} → p.NoMessage h q a
      → p.step s h ≡ refused q a s h.out h.delivery
      → Run p x s hs → Run p x s (h ∷ hs)

-- An accepted step is what the figure does: the message m is received, then every branch that is enabled fires until none is; what is sent and
-- output on the way is what the step answers and leaves, z; and whichever enabled branch goes first, it comes to the same. shows: which party a
-- state's bytes show.
pub record AsParty (p : Party) (shows : List ℕ → p.At) (s : List ℕ) (h : Handed) (m : p.Message) (z : Outcome) : Type 0 where
  pub events : List (Act p.Message p.Result)
  pub fires : Fires p.Branch (p.receive h.from m (shows s)) events (shows z.state)
  pub answer : Answers p events h z
  pub only : (es : List (Act p.Message p.Result)) (y : p.At) → Fires p.Branch (p.receive h.from m (shows s)) es y
      → (es ≡ events) × (y ≡ shows z.state)
