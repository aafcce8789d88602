-- One broadcast within the run of larger boards: boards whose state is bytes, or boards that carry several broadcasts.
use Rattle.std.specs.Prelude.{ℕ, Bool, ◌≡◌, T}
use Rattle.std.proofs.Math.Option.{Option, some, none}
use Rattle.line.specs.Run.{Machine, In, hand, Run, fresh, after, state, Delivered, Genuine}
use Rattle.line.specs.Promise.{PromiseBy}

-- sees: what a larger board of B, in this state, hands to its board of M, if anything
module _ (B M : Machine) (sees : B.State → In B → Option (In M)) where
  abbrev pub extend : Run M → ℕ → Option (In M) → Run M
  extend q j none = q
  extend q j (some y) = after q j y

  -- the run of that broadcast: what its boards were handed, from their starts on
  unfoldable pub project : Run B → Run M
  project fresh = fresh
  project (after r j x) = extend (project r) j (sees (state B r j) x)

  -- x came to board j, and the broadcast saw y of it: what comes before the broadcast's start is not handed over to it
  pub data TookSeen (j : ℕ) (x : In B) (y : In M) : Run B → Type 0 where
    now : {r : Run B} → sees (state B r j) x ≡ some y → TookSeen j x y (after r j x)
    then : {r : Run B} {k : ℕ} {z : In B} → TookSeen j x y r → TookSeen j x y (after r k z)

  -- of and res: which of the larger board's records and results are the broadcast's, and what they are there
  module _ (keeps : ℕ → Bool) (Sent : ℕ → ℕ → B.Rec → Type 0) (of : B.Rec → Option M.Rec) (res : B.Result → Option M.Result) where
    -- every record of the broadcast between rule-keeping boards has been handed over to it
    abbrev pub OverOf : Run B → Type 0
    OverOf r = (i j : ℕ) (β : B.Rec) (ρ : M.Rec) → T (keeps i) → T (keeps j) → of β ≡ some ρ → Genuine B Sent r i j β → TookSeen j (hand i β) (hand i ρ) r

    -- board j delivered e in the broadcast
    abbrev pub DeliveredOf : ℕ → M.Result → Run B → Type 0
    DeliveredOf j e r = (d : B.Result) × (res d ≡ some e) × Delivered B j d r

    -- demand 3 of one broadcast among those that a board carries
    abbrev pub PromiseOf : ℕ → M.Result → Type 0 → Run B → Type 0
    PromiseOf S result Unless r = PromiseBy keeps S (λ j e. DeliveredOf j e r) (OverOf r) result Unless
