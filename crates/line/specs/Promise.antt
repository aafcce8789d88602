-- What a broadcast promises of a run: agreement, validity and totality.
use Rattle.std.specs.Prelude.{ℕ, Bool, ◌≡◌, ◌⊎◌, T}
use Rattle.line.specs.Boards.{Board}
use Rattle.line.specs.Run.{Machine, Run, Delivered, Over}

-- the records of sender S, one for each of the n boards
-- (document 01: "A rule-keeping sender puts out its n send records for one message of at most L bytes")
abbrev pub Mail : {Rec : Type 0} → ℕ → ℕ → (ℕ → Rec) → ℕ → ℕ → Rec → Type 0
Mail n S mail i j ρ = (i ≡ S) × Board n j × (ρ ≡ mail j)

-- Demand 3 of a broadcast by board S. Gave says what a board delivered, Over that every record between rule-keeping boards has been handed over;
-- result is what is to be delivered, if S keeps the rules; Unless is what else may have happened: two different strings hashed in the run have one
-- hash value, or, without hashes, nothing.
pub record PromiseBy (keeps : ℕ → Bool) (S : ℕ) {Result : Type 0} (Gave : ℕ → Result → Type 0) (Over : Type 0) (result : Result) (Unless : Type 0) : Type 0 where
  -- agreement: no two rule-keeping boards deliver different results
  pub agree : (i j : ℕ) (d e : Result) → T (keeps i) → T (keeps j) → Gave i d → Gave j e → (d ≡ e) ⊎ Unless
  -- validity: under a rule-keeping sender no rule-keeping board delivers anything but the sender's message
  pub valid : (i : ℕ) (d : Result) → T (keeps S) → T (keeps i) → Gave i d → (d ≡ result) ⊎ Unless
  -- totality: if every record between rule-keeping boards has been handed over, and one of them has delivered or the sender keeps
  -- the rules, all of them have delivered
  pub total : Over → ((i : ℕ) × (d : Result) × T (keeps i) × Gave i d) ⊎ T (keeps S) → (j : ℕ) → T (keeps j) → (d : Result) × Gave j d

-- of the run r: Sent is what S sends, if it keeps the rules
abbrev pub Promise : (M : Machine) (keeps : ℕ → Bool) (S : ℕ) (Sent : ℕ → ℕ → M.Rec → Type 0) (result : M.Result) (Unless : Type 0) (r : Run M) → Type 0
Promise M keeps S Sent result Unless r = PromiseBy keeps S (λ j d. Delivered M j d r) (Over M keeps Sent r) result Unless
