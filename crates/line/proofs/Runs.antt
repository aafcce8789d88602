-- Induction along a run.
use Prim.Native.Nat.{ℕ}
use mathlib.Core.Bool.{Bool, true, false}
use mathlib.Core.Path.{◌≡◌, refl, subst, sym}
use mathlib.Core.Logic.{◌⊎◌, inl, inr}
use mathlib.Core.Option.{some}
use lib.Dec.{T, eqb, eqb→eq, eqb_refl}
use Rattle.octets.specs.Bytes.{pick}
use Rattle.line.specs.Run.{Machine, In, hand, Run, fresh, after, state, Took, Put, Delivered, Genuine, Fair}
use Rattle.line.proofs.Tests.{pick_true}

module _ (M : Machine) where
  -- board j's own step
  pub state_own : (r : Run M) (j : ℕ) (x : In M) → state M (after r j x) j ≡ M.next (state M r j) x
  unfolding state
  state_own r j x = pick_true (eqb j j) (M.next (state M r j) x) (state M r j) (eqb_refl j)

  -- one step of the run: board j's own step, or another board's, which leaves j's state
  pub step_cases : (P : M.State → Type 0) (j : ℕ) (r : Run M) (k : ℕ) (x : In M)
      → (k ≡ j → P (M.next (state M r j) x)) → P (state M r j) → P (state M (after r k x) j)
  unfolding state pick
  step_cases P j r k x own other = go (eqb k j) (eqb→eq k j)
    where
      go : (b : Bool) → (T b → k ≡ j) → P (pick b (M.next (state M r j) x) (state M r j))
      go true e = own (e tt)
      go false e = other

  -- What holds of the run and of board j's state, from its start on: through a step of its own, and through a step of another board.
  pub along : (P : Run M → M.State → Type 0) (j : ℕ) → P fresh (M.start j)
      → ((r : Run M) (x : In M) → P r (state M r j) → P (after r j x) (M.next (state M r j) x))
      → ((r : Run M) (k : ℕ) (x : In M) → P r (state M r j) → P (after r k x) (state M r j))
      → (r : Run M) → P r (state M r j)
  unfolding state
  along P j p own other fresh = p
  along P j p own other (after r k x) =
      let h = along P j p own other r in
      step_cases (P (after r k x)) j r k x (λ e. subst (λ i. P (after r i x) (M.next (state M r j) x)) (sym e) (own r x h)) (other r k x h)

  -- What a step keeps, a run's next step keeps.
  pub stays : (P : M.State → Type 0) (j : ℕ) (r : Run M) (k : ℕ) (x : In M)
      → (P (state M r j) → P (M.next (state M r j) x)) → P (state M r j) → P (state M (after r k x) j)
  stays P j r k x f p = step_cases P j r k x (λ e. f p) p

  -- what was put out: in the last step, or before it
  pub last_put : {i j k : ℕ} {ρ : M.Rec} {r : Run M} {x : In M} → Put M i j ρ (after r k x) → Put M i j ρ r ⊎ ((k ≡ i) × (M.puts (state M r i) x j ≡ some ρ))
  last_put (Put.now e) = inr (refl, e)
  last_put (Put.then p) = inl p

  pub no_put : {i j : ℕ} {ρ : M.Rec} → Put M i j ρ fresh → ⊥
  no_put p = elim p [ ]

  -- what was delivered: in the last step, or before it
  pub last_given : {j k : ℕ} {d : M.Result} {r : Run M} {x : In M} → Delivered M j d (after r k x) → Delivered M j d r ⊎ ((k ≡ j) × (M.gives (state M r j) x ≡ some d))
  last_given (Delivered.now g) = inr (refl, g)
  last_given (Delivered.then p) = inl p

  pub no_given : {j : ℕ} {d : M.Result} → Delivered M j d fresh → ⊥
  no_given p = elim p [ ]

  -- what was handed over: in the last step, or before it
  pub last_took : {j k : ℕ} {x y : In M} {r : Run M} → Took M j x (after r k y) → Took M j x r ⊎ ((k ≡ j) × (y ≡ x))
  last_took Took.now = inr (refl, refl)
  last_took (Took.then t) = inl t

  pub no_took : {j : ℕ} {x : In M} → Took M j x fresh → ⊥
  no_took t = elim t [ ]

  took_this : {keeps : ℕ → Bool} {Sent : ℕ → ℕ → M.Rec → Type 0} {r : Run M} {i j : ℕ} {ρ : M.Rec} {y : In M} → Fair M keeps Sent r
      → Took M j y r → y ≡ hand i ρ → T (keeps i) → T (keeps j) → Genuine M Sent r i j ρ
  took_this Fair.begun t e ki kj = elim t [ ]
  took_this {i = i} {ρ = ρ} (Fair.went f g) Took.now e ki kj = elim (g i ρ e ki kj) [ inl p ↦ inl (Put.then p) | inr s ↦ inr s ]
  took_this (Fair.went f g) (Took.then t) e ki kj = elim (took_this f t e ki kj) [ inl p ↦ inl (Put.then p) | inr s ↦ inr s ]

  -- in a fair run, what was handed over between rule-keeping boards was genuine
  pub took_genuine : {keeps : ℕ → Bool} {Sent : ℕ → ℕ → M.Rec → Type 0} {r : Run M} {i j : ℕ} {ρ : M.Rec} → Fair M keeps Sent r
      → Took M j (hand i ρ) r → T (keeps i) → T (keeps j) → Genuine M Sent r i j ρ
  took_genuine f t ki kj = took_this f t refl ki kj
