-- Why a board refuses a record: it is no message, or the party receives it without effect.
use mathlib.Core.Path.{◌≡◌, refl, sym}
use Prim.Native.Nat.{ℕ}
use mathlib.Core.List.{List}
use mathlib.Core.Bool.{Bool, true, false, not, ◌||◌}
use mathlib.Core.Option.{none, some}
use mathlib.Core.Logic.{◌⊎◌, inl, inr}
use Rattle.octets.specs.Bytes.{pick}
use Rattle.octets.proofs.Picks.{never}
use Rattle.board.specs.Planned.{Plan, Refuse, Take}
use Rattle.board_step.specs.Step.{refused}
use Rattle.figure.specs.Run.{Handed, passed_over, Party}
use Rattle.figure.proofs.History.{Made, passed, missed}

module _ (p : Party) (shows : List ℕ → p.At) (Alike : p.At → p.At → Type 0) (s : List ℕ) (h : Handed) where
  -- it is a message that is received without effect
  abbrev pub Without : ℕ → Type 0
  Without q = (m : p.Message) × p.Means h m × (passed_over q ≡ true) × Alike (p.receive h.from m (shows s)) (shows s)

  -- what a plan to refuse it is to have for a reason
  abbrev pub Reason : ℕ → ℕ → Type 0
  Reason q a = p.NoMessage h q a ⊎ ((a ≡ 0) × Without q)

  pub Why : Plan → Type 0
  Why (Refuse q a) = Reason q a
  Why (Take k l f) = Unit {0}

  -- the refusals in their order
  pub why_pick : (c : Bool) (q : ℕ) (y : Plan) → (c ≡ true → Reason q 0) → (c ≡ false → Why y) → Why (pick c (Refuse q 0) y)
  unfolding Why pick
  why_pick true q y f g = f refl
  why_pick false q y f g = g refl

  pub why_take : (k l f : ℕ) → Why (Take k l f)
  unfolding Why
  why_take k l f = tt

  pub why_not : (q a : ℕ) → p.NoMessage h q a → Why (Refuse q a)
  unfolding Why
  why_not q a n = inl n

  -- so what the board makes of it is what the figure makes
  pub refused_made : (q a : ℕ) → Why (Refuse q a) → p.step s h ≡ refused q a s h.out h.delivery → Made p shows Alike s h
  unfolding Why
  refused_made q a (inl none_there) e = missed q a none_there e
  refused_made q a (inr (start, (m, means, number, idle))) e = passed m q means number idle (rw start at e)

-- a send that does not come from S is not there
pub stray_send : {X : Type 0} (c : Bool) (v : X) → (not c || false) ≡ true → pick c (some v) none ≡ none
unfolding pick
stray_send true v h = never h
stray_send false v h = refl

-- an echo or a vote of a party that is not done is refused as a second one
pub going_or : (d h : Bool) → (d || h) ≡ true → d ≡ false → h ≡ true
going_or true h e g = never (sym g)
going_or false h e g = e
