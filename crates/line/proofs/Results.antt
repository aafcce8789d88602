-- From the quorum facts to results: how agreement and totality of a broadcast follow, whatever is delivered.
use Prim.Native.Nat.{ℕ, ◌-◌, ◌≤◌}
use native.Mathlib.Omega.{arith}
use mathlib.Core.Bool.{Bool, not}
use mathlib.Core.Path.{◌≡◌}
use mathlib.Core.Logic.{◌⊎◌, inl, inr}
use mathlib.Core.Option.{some}
use lib.Dec.{T}
use Rattle.line.specs.Boards.{count, Board, Keepers}
use Rattle.line.specs.Run.{Machine, In, Run, after, state, Delivered, Fair, Over}
use Rattle.line.specs.Promise.{Mail}
use Rattle.line.specs.Core.{vote}
use Rattle.line.proofs.Tests.{truth}
use Rattle.line.proofs.EchoVote.{Reading, EchoVote, Said, Mute}
use Rattle.line.proofs.Runs.{state_own, along}
use Rattle.line.proofs.Quorums.{good, heard_on, quorum_spreads, Ready, ready}
use Rattle.line.proofs.Senders.{Sends, sender_spreads}

-- How a board comes to its result.
pub record Ends (M : Machine) (n t : ℕ) (Val : Type 0) (R : Reading M Val) (E : EchoVote M n t Val R) : Type 1 where
  pub Outcome : M.State → Val → M.Result → Type 0  -- a state whose n - t votes are for v has the result d
  -- a board is done when it delivers, and delivers the outcome of n - t votes
  pub done_start : (j : ℕ) → T (R.done (M.start j)) → ⊥
  pub done_why : {j : ℕ} {s : M.State} → R.Good j s → (x : In M) → T (R.done (M.next s x))
      → T (R.done s) ⊎ ((d : M.Result) × (M.gives s x ≡ some d))
  pub gives_why : {j : ℕ} {s : M.State} → R.Good j s → (x : In M) (d : M.Result) → M.gives s x ≡ some d
      → (v : Val) × (n - t ≤ count (R.heard vote (M.next s x) v) n) × Outcome (M.next s x) v d
  -- no delivery is overdue
  pub gives_due : {j : ℕ} {s : M.State} → R.Good j s → (v : Val) (d : M.Result) → T (R.spoke vote s)
      → n - t ≤ count (R.heard vote s v) n → Outcome s v d → T (R.done s)

module _ {M : Machine} {n t : ℕ} {Val : Type 0} {R : Reading M Val} {E : EchoVote M n t Val R} (F : Ends M n t Val R E) where
  -- a board that is done has delivered
  pub done_delivered : (r : Run M) (j : ℕ) → T (R.done (state M r j)) → (d : M.Result) × Delivered M j d r
  done_delivered r j = along M (λ q s. T (R.done s) → (d : M.Result) × Delivered M j d q) j
      (λ h. absurd (F.done_start j h))
      (λ q x ih h. elim (F.done_why (good E q j) x h) [ inl o ↦ (let (d, p) = ih o in (d, Delivered.then p)) | inr c ↦ (c.0, Delivered.now c.1) ])
      (λ q k x ih h. let (d, p) = ih h in (d, Delivered.then p))
      r

  -- A board delivers on n - t votes for a value, which it still has at the end of the run; W is what else is known of the delivery.
  pub delivered_why : (W : Run M → Val → M.Result → Type 0) (j : ℕ)
      → ((r : Run M) (x : In M) (v : Val) (d : M.Result) → M.gives (state M r j) x ≡ some d → F.Outcome (M.next (state M r j) x) v d → W (after r j x) v d)
      → ((r : Run M) (k : ℕ) (x : In M) (v : Val) (d : M.Result) → W r v d → W (after r k x) v d)
      → {d : M.Result} {r : Run M} → Delivered M j d r → (v : Val) × (n - t ≤ count (R.heard vote (state M r j) v) n) × W r v d
  delivered_why W j own on {d} (Delivered.now {r} {x} e) = let (v, q, h) = F.gives_why (good E r j) x d e in (v, rw state_own q, own r x v d e h)
  delivered_why W j own on {d} (Delivered.then {r} {k} {y} p) =
      let (v, q, h) = delivered_why W j own on p in
      (v, omega (arith, heard_on E r k y j vote v), on r k y v d h)

  module _ {keeps : ℕ → Bool} (K : Keepers n t keeps) {Sent : ℕ → ℕ → M.Rec → Type 0} (mute : Mute R Sent) {r : Run M}
      (f : Fair M keeps Sent r) (o : Over M keeps Sent r)
      -- the votes of all, with the echoes behind them, have an outcome
      (yields : (v : Val) (j : ℕ) → T (keeps j) → Ready E K mute f o v j → (d : M.Result) × F.Outcome (state M r j) v d) where
    -- where each voted for one value, each delivers
    pub votes_deliver : (v : Val) → ((i : ℕ) → T (keeps i) → Said R vote i v r) → (j : ℕ) → T (keeps j) → (d : M.Result) × Delivered M j d r
    votes_deliver v h j kj = done_delivered r j (elim (truth (R.done (state M r j))) [ inl d ↦ d | inr nd ↦ late nd ])
      where
        late : T (not (R.done (state M r j))) → T (R.done (state M r j))
        late nd =
            let a = ready E K mute f o v h j kj nd in
            let (d, c) = yields v j kj a in
            F.gives_due (good E r j) v d a.voted a.quorum c

    pub one_delivers : (i : ℕ) (d : M.Result) → T (keeps i) → Delivered M i d r → (j : ℕ) → T (keeps j) → (e : M.Result) × Delivered M j e r
    one_delivers i d ki p =
        let (v, q, h) = delivered_why (λ r v d. Unit {0}) i (λ r x v d e h. tt) (λ r k x v d h. tt) p in
        votes_deliver v (quorum_spreads E K mute f o v i ki q)

-- the last sentence of the promise
pub total : {M : Machine} {n t : ℕ} {Val : Type 0} {R : Reading M Val} {E : EchoVote M n t Val R} {S : ℕ} (F : Ends M n t Val R E) (D : Sends M n t Val R E S)
    {keeps : ℕ → Bool} (K : Keepers n t keeps) (mail : ℕ → M.Rec) (mute : Mute R (Mail n S mail))
    (v : Val) → ((j : ℕ) → Board n j → D.Fit j (mail j) v)
    → {r : Run M} (f : Fair M keeps (Mail n S mail) r) (o : Over M keeps (Mail n S mail) r)
    → ((u : Val) (j : ℕ) → T (keeps j) → Ready E K mute f o u j → (d : M.Result) × F.Outcome (state M r j) u d)
    → ((i : ℕ) × (d : M.Result) × T (keeps i) × Delivered M i d r) ⊎ T (keeps S) → (j : ℕ) → T (keeps j) → (d : M.Result) × Delivered M j d r
total F D K mail mute v fit f o yields (inl (i, d, ki, p)) = one_delivers F K mute f o yields i d ki p
total F D K mail mute v fit f o yields (inr k_s) = votes_deliver F K mute f o yields v (sender_spreads D K mail mute k_s v fit f o)
