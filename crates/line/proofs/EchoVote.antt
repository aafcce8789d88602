-- Echo and vote, over whatever is voted on: what one step of a kind of board must meet, so that the quorum facts hold of its runs.
use Prim.Native.Nat.{ℕ, ◌-◌, ◌≤◌, ◌<◌}
use mathlib.Core.Bool.{Bool, not}
use mathlib.Core.Path.{◌≡◌}
use mathlib.Core.Logic.{◌⊎◌}
use mathlib.Core.Option.{Option, some}
use lib.Dec.{T}
use Rattle.line.specs.Boards.{count, Board}
use Rattle.line.specs.Run.{Machine, In, hand, Run, after, state}
use Rattle.line.specs.Core.{Word, echo, vote}

-- How to read the records, steps and states of a kind of board. Val is what is voted on: a root, a notice, nothing.
pub record Reading (M : Machine) (Val : Type 0) : Type 1 where
  pub Says : Word → M.Rec → Val → Type 0  -- each board of the line takes this record for an echo (a vote) of v
  pub says : Word → M.State → In M → Option Val  -- what this step echoes (votes for)
  pub heard : Word → M.State → Val → ℕ → Bool  -- the boards whose kept echo (vote) names v
  pub spoke : Word → M.State → Bool  -- the board has acquired (voted)
  pub done : M.State → Bool
  pub Good : ℕ → M.State → Type 0  -- what holds of each state that board j comes to

-- What one step meets, from any state that board j may be in.
pub record EchoVote (M : Machine) (n t : ℕ) (Val : Type 0) (R : Reading M Val) : Type 1 where
  pub good_start : (j : ℕ) → R.Good j (M.start j)
  pub good_next : {j : ℕ} {s : M.State} → R.Good j s → (x : In M) → R.Good j (M.next s x)
  -- a fresh board has heard nobody, and has said nothing
  pub heard_start : (w : Word) (j i : ℕ) (v : Val) → T (R.heard w (M.start j) v i) → ⊥
  pub spoke_start : (w : Word) (j : ℕ) → T (R.spoke w (M.start j)) → ⊥
  -- what is kept came from that board, and stays
  pub heard_from : {j : ℕ} {s : M.State} → R.Good j s → (x : In M) (w : Word) (v : Val) (i : ℕ) → T (R.heard w (M.next s x) v i)
      → T (R.heard w s v i) ⊎ ((ρ : M.Rec) × (x ≡ hand i ρ) × R.Says w ρ v)
  pub heard_stays : {j : ℕ} {s : M.State} → R.Good j s → (x : In M) (w : Word) (v : Val) (i : ℕ)
      → T (R.heard w s v i) → T (R.heard w (M.next s x) v i)
  -- an echo (a vote) that is handed over is kept, unless the board is done or has kept one of that board
  pub heard_in : {j : ℕ} {s : M.State} → R.Good j s → (i : ℕ) (ρ : M.Rec) (w : Word) (v : Val) → Board n i → R.Says w ρ v
      → T (R.done (M.next s (hand i ρ))) ⊎ ((u : Val) × T (R.heard w (M.next s (hand i ρ)) u i))
  pub done_stays : {j : ℕ} {s : M.State} → R.Good j s → (x : In M) → T (R.done s) → T (R.done (M.next s x))
  -- the records put out are what the step says, to all n boards
  pub put_says : {j : ℕ} {s : M.State} → R.Good j s → (x : In M) (k : ℕ) (ρ : M.Rec) (w : Word) (v : Val)
      → M.puts s x k ≡ some ρ → R.Says w ρ v → R.says w s x ≡ some v
  pub says_put : {j : ℕ} {s : M.State} → R.Good j s → (x : In M) (w : Word) (v : Val) → R.says w s x ≡ some v
      → (k : ℕ) → Board n k → (ρ : M.Rec) × (M.puts s x k ≡ some ρ) × R.Says w ρ v
  -- a board echoes once and votes once
  pub says_once : {j : ℕ} {s : M.State} → R.Good j s → (x : In M) (w : Word) (v : Val) → R.says w s x ≡ some v
      → T (not (R.spoke w s)) × T (R.spoke w (M.next s x))
  pub spoke_stays : {j : ℕ} {s : M.State} → R.Good j s → (x : In M) (w : Word) → T (R.spoke w s) → T (R.spoke w (M.next s x))
  -- a board votes with reason, is marked so only if it did, and no vote is overdue
  pub vote_why : {j : ℕ} {s : M.State} → R.Good j s → (x : In M) (v : Val) → R.says vote s x ≡ some v
      → (n - t ≤ count (R.heard echo (M.next s x) v) n) ⊎ (t < count (R.heard vote (M.next s x) v) n)
  pub voted_why : {j : ℕ} {s : M.State} → R.Good j s → (x : In M) → T (R.spoke vote (M.next s x))
      → T (R.spoke vote s) ⊎ ((v : Val) × (R.says vote s x ≡ some v))
  pub vote_due : {j : ℕ} {s : M.State} → R.Good j s → (v : Val) → T (not (R.spoke vote s))
      → (count (R.heard echo s v) n < n - t) × (count (R.heard vote s v) n ≤ t)
  pub done_voted : {j : ℕ} {s : M.State} → R.Good j s → T (R.done s) → T (R.spoke vote s)

-- board i echoed (voted for) v in the run
pub data Said {M : Machine} {Val : Type 0} (R : Reading M Val) (w : Word) (i : ℕ) (v : Val) : Run M → Type 0 where
  now : {r : Run M} {x : In M} → R.says w (state M r i) x ≡ some v → Said R w i v (after r i x)
  then : {r : Run M} {k : ℕ} {y : In M} → Said R w i v r → Said R w i v (after r k y)

-- the records that a sender puts out are no echoes and no votes
abbrev pub Mute : {M : Machine} {Val : Type 0} → Reading M Val → (ℕ → ℕ → M.Rec → Type 0) → Type 0
Mute {M} {Val} R Sent = (w : Word) (i j : ℕ) (ρ : M.Rec) (v : Val) → Sent i j ρ → R.Says w ρ v → ⊥
