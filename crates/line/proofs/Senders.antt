-- A sender that keeps the rules: what is echoed is its value, and once all is handed over every board votes for one value.
use Prim.Native.Nat.{ℕ, ◌-◌, ◌≤◌}
use mathlib.Core.Bool.{Bool}
use mathlib.Core.Path.{◌≡◌, refl, subst, sym}
use mathlib.Core.Logic.{◌⊎◌, inl, inr}
use mathlib.Core.Option.{some}
use lib.Dec.{T}
use Rattle.line.specs.Boards.{count, Board, Keepers}
use Rattle.line.specs.Run.{Machine, In, hand, Run, after, state, Took, Put, Genuine, Fair, Over}
use Rattle.line.specs.Promise.{Mail}
use Rattle.line.specs.Core.{echo, vote}
use Rattle.line.proofs.EchoVote.{Reading, EchoVote, Said, Mute}
use Rattle.line.proofs.Counts.{each_or}
use Rattle.line.proofs.Runs.{state_own, step_cases, stays}
use Rattle.line.proofs.Quorums.{good, one_echoed, B0, echoes_spread}

-- What a step does with the records of a sender, for a kind of board that echoes what board S sent.
pub record Sends (M : Machine) (n t : ℕ) (Val : Type 0) (R : Reading M Val) (E : EchoVote M n t Val R) (S : ℕ) : Type 1 where
  pub Send : M.Rec → Type 0  -- the record is a send
  pub Fit : ℕ → M.Rec → Val → Type 0  -- a send of v that board j echoes
  pub late : M.State → Bool  -- no send is taken any more
  pub fit_one : (j : ℕ) (ρ : M.Rec) (v u : Val) → Fit j ρ v → Fit j ρ u → v ≡ u
  -- no board puts a send out in a step, and it echoes only what S sent
  pub put_no_send : {j : ℕ} {s : M.State} → R.Good j s → (x : In M) (k : ℕ) (ρ : M.Rec) → M.puts s x k ≡ some ρ → Send ρ → ⊥
  pub echo_why : {j : ℕ} {s : M.State} → R.Good j s → (x : In M) (v : Val) → R.says echo s x ≡ some v
      → (ρ : M.Rec) × (x ≡ hand S ρ) × Send ρ × Fit j ρ v
  -- a fit send is taken unless it is late; the first that is taken is echoed
  pub send_in : {j : ℕ} {s : M.State} → R.Good j s → (ρ : M.Rec) (v : Val) → Fit j ρ v
      → T (late (M.next s (hand S ρ))) ⊎ T (R.spoke echo (M.next s (hand S ρ)))
  pub acquired_why : {j : ℕ} {s : M.State} → R.Good j s → (x : In M) → T (R.spoke echo (M.next s x))
      → T (R.spoke echo s) ⊎ ((ρ : M.Rec) × (x ≡ hand S ρ) × Send ρ × ((v : Val) → Fit j ρ v → R.says echo s x ≡ some v))
  -- late is a board with n - t votes for one value
  pub late_stays : {j : ℕ} {s : M.State} → R.Good j s → (x : In M) → T (late s) → T (late (M.next s x))
  pub late_why : {j : ℕ} {s : M.State} → R.Good j s → T (late s) → (v : Val) × (n - t ≤ count (R.heard vote s v) n)

module _ {M : Machine} {n t : ℕ} {Val : Type 0} {R : Reading M Val} {E : EchoVote M n t Val R} {S : ℕ} (D : Sends M n t Val R E S) where
  put_no_send : {i j : ℕ} {ρ : M.Rec} {r : Run M} → D.Send ρ → Put M i j ρ r → ⊥
  put_no_send {i} {j} {ρ} h (Put.now {r} {x} e) = D.put_no_send (good E r i) x j ρ e h
  put_no_send h (Put.then p) = put_no_send h p

  module _ {keeps : ℕ → Bool} (K : Keepers n t keeps) (mail : ℕ → M.Rec) (mute : Mute R (Mail n S mail)) (k_s : T (keeps S)) (v : Val)
      (fit : (j : ℕ) → Board n j → D.Fit j (mail j) v) where
    -- a send that S is said to have sent is S's
    genuine_send : {j : ℕ} {ρ : M.Rec} {r : Run M} → D.Send ρ → Genuine M (Mail n S mail) r S j ρ → ρ ≡ mail j
    genuine_send h (inl p) = absurd (put_no_send h p)
    genuine_send h (inr s) = s.2

    -- what is echoed is S's value
    pub echoes_valid : {i : ℕ} {u : Val} {r : Run M} → Fair M keeps (Mail n S mail) r → T (keeps i) → Said R echo i u r → u ≡ v
    echoes_valid Fair.begun ki p = elim p [ ]
    echoes_valid (Fair.went f g) ki (Said.then p) = echoes_valid f ki p
    echoes_valid {i} {u} (Fair.went f g) ki (Said.now {r} {x} e) =
        let (ρ, ex, sd, ft) = D.echo_why (good E r i) x u e in
        let h = genuine_send sd (g S ρ ex k_s ki) in
        D.fit_one i (mail i) u v (subst (λ a. D.Fit i a u) h ft) (fit i (K.known i ki))

    pub votes_valid : {i : ℕ} {u : Val} {r : Run M} → Fair M keeps (Mail n S mail) r → T (keeps i) → Said R vote i u r → u ≡ v
    votes_valid f ki p =
        let (j, kj, q) = one_echoed E K mute f ki p in
        echoes_valid f kj q

    -- a board that has acquired echoed S's value
    acquired_echoed : {r : Run M} → Fair M keeps (Mail n S mail) r → (j : ℕ) → T (keeps j) → T (R.spoke echo (state M r j)) → Said R echo j v r
    unfolding state
    acquired_echoed Fair.begun j kj = λ h. absurd (E.spoke_start echo j h)
    acquired_echoed (Fair.went {r} {j = k} {x} f g) j kj =
        step_cases M (λ s. T (R.spoke echo s) → Said R echo j v (after r k x)) j r k x
        (λ e h. elim (D.acquired_why (good E r j) x h) [
          | inl o ↦ Said.then (acquired_echoed f j kj o)
          | inr c ↦ (
              let m : c.0 ≡ mail j = genuine_send c.2 (subst (λ a. Genuine M (Mail n S mail) r S a c.0) e (g S c.0 c.1 k_s (subst (λ a. T (keeps a)) (sym e) kj))) in
              subst (λ a. Said R echo j v (after r a x)) (sym e) (Said.now (c.3 v (subst (λ a. D.Fit j a v) (sym m) (fit j (K.known j kj))))))
        ])
        (λ h. Said.then (acquired_echoed f j kj h))

    took_send : {j : ℕ} {r : Run M} → T (keeps j) → Took M j (hand S (mail j)) r → T (D.late (state M r j)) ⊎ T (R.spoke echo (state M r j))
    took_send {j} kj (Took.now {r}) = rw state_own (D.send_in (good E r j) (mail j) v (fit j (K.known j kj)))
    took_send {j} kj (Took.then {r} {k} {y} p) = elim (took_send kj p) [
      | inl d ↦ inl (stays M (λ s. T (D.late s)) j r k y (D.late_stays (good E r j) y) d)
      | inr c ↦ inr (stays M (λ s. T (R.spoke echo s)) j r k y (E.spoke_stays (good E r j) y echo) c)
    ]

    -- Source document 000, Bracha Property B1: "If an honest sender S inputs a message, then all honest parties will eventually vote for
    -- some message." Its proof: "all honest parties will echo the sender's message, unless some honest party enters the output stage
    -- without doing so".
    pub B1 : {r : Run M} → Fair M keeps (Mail n S mail) r → Over M keeps (Mail n S mail) r → (j : ℕ) → T (keeps j) → (u : Val) × Said R vote j u r
    unfolding Over
    B1 {r} f o = go (each_or keeps (λ j. Said R echo j v r) n each)
      where
        each : (j : ℕ) → Board n j → T (keeps j) → Said R echo j v r ⊎ ((i : ℕ) × T (keeps i) × T (D.late (state M r i)))
        each j b kj = elim (took_send kj (o S j (mail j) k_s kj (inr (refl, K.known j kj, refl))))
            [ inl l ↦ inr (j, kj, l) | inr a ↦ inl (acquired_echoed f j kj a) ]

        go : ((j : ℕ) → Board n j → T (keeps j) → Said R echo j v r) ⊎ ((j : ℕ) × T (keeps j) × T (D.late (state M r j)))
            → (j : ℕ) → T (keeps j) → (u : Val) × Said R vote j u r
        go (inl h) = echoes_spread E K mute f o v (λ i ki. h i (K.known i ki) ki)
        go (inr (j, kj, l)) =
            let (u, q) = D.late_why (good E r j) l in
            B0 E K mute f o u j kj q

    -- and for the sender's message
    pub sender_spreads : {r : Run M} → Fair M keeps (Mail n S mail) r → Over M keeps (Mail n S mail) r → (j : ℕ) → T (keeps j) → Said R vote j v r
    sender_spreads {r} f o j kj = let (u, p) = B1 f o j kj in subst (λ a. Said R vote j a r) (votes_valid f kj p) p
