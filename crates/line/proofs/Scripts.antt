-- A run by a script, whatever the boards are: the sender's records, then records that every board refuses, then an echo of each of the boards
-- that speak, then a vote of each of them; every one of these goes to all the boards 1 to n.
use Prim.Native.Nat.{ℕ, zero, suc, ◌≤◌, ◌<◌}
use native.Mathlib.Omega.{arith}
use native.Mathlib.Decide.{ℕ_discrete}
use mathlib.Core.Bool.{Bool}
use mathlib.Core.Path.{◌≡◌, subst, sym, ◌∙◌, ap}
use mathlib.Core.Logic.{◌⊎◌, inl, inr}
use mathlib.Core.Option.{some, none, some-injective}
use lib.Dec.{T}
use Rattle.line.specs.Boards.{Board}
use Rattle.line.specs.Run.{Machine, hand, Run, fresh, after, state, Took, Put, Delivered, Fair, Over}
use Rattle.line.proofs.Tests.{none_some}
use Rattle.line.proofs.Runs.{no_put, no_took}
use Rattle.line.proofs.Rounds.{round, rounds, Later, later_both, took_later, put_later, Within}
use Rattle.line.proofs.Rounds.{round_before, round_state, round_later, round_within, round_took, round_took_why, round_put, round_put_why, round_fair}
use Rattle.line.proofs.Rounds.{rounds_later, rounds_within, rounds_state, rounds_took, rounds_took_why, rounds_put, rounds_put_why}
use Rattle.line.proofs.Rounds.{rounds_delivered, rounds_fair}

-- records that every board refuses: how many rounds of them, the board that each round comes from, and its record for each board
pub record Strays (Rec : Type 0) : Type 0 where
  pub rounds : ℕ
  pub from : ℕ → ℕ
  pub stray : ℕ → ℕ → Rec

pub record Script (Rec : Type 0) : Type 0 where
  pub S : ℕ
  pub mail : ℕ → Rec  -- the sender's record for each board
  pub strays : Strays Rec
  pub speakers : ℕ  -- the boards 1 to this one echo and vote
  pub echo : ℕ → Rec
  pub vote : Rec

module _ (M : Machine) (n : ℕ) (P : Script M.Rec) where
  unfoldable pub sent : Run M
  sent = round M fresh n P.S P.mail

  unfoldable pub strayed : Run M
  strayed = rounds M sent n P.strays.from P.strays.stray P.strays.rounds

  unfoldable pub echoed : Run M
  echoed = rounds M strayed n (λ i. i) (λ i j. P.echo i) P.speakers

  unfoldable pub voted : Run M
  voted = rounds M echoed n (λ i. i) (λ i j. P.vote) P.speakers

  pub voted_within : Within M n voted
  unfolding voted echoed strayed sent Within
  voted_within =
      let w0 = round_within M fresh n n P.S P.mail (omega arith) tt in
      let w1 = rounds_within M sent n P.strays.from P.strays.stray w0 P.strays.rounds in
      let w2 = rounds_within M strayed n (λ i. i) (λ i j. P.echo i) w1 P.speakers in
      rounds_within M echoed n (λ i. i) (λ i j. P.vote) w2 P.speakers

  -- ---- each of the records is handed over

  echoed_later : Later M echoed voted
  unfolding voted rounds
  echoed_later = rounds_later M echoed n (λ i. i) (λ i j. P.vote) 0 P.speakers (omega arith)

  strayed_later : Later M strayed voted
  unfolding echoed rounds
  strayed_later = later_both M (rounds_later M strayed n (λ i. i) (λ i j. P.echo i) 0 P.speakers (omega arith)) echoed_later

  sent_later : Later M sent voted
  unfolding strayed rounds
  sent_later = later_both M (rounds_later M sent n P.strays.from P.strays.stray 0 P.strays.rounds (omega arith)) strayed_later

  pub took_mail : (j : ℕ) → Board n j → Took M j (hand P.S (P.mail j)) sent
  unfolding sent
  took_mail j b = round_took M fresh n P.S P.mail j b

  took_echo : (i j : ℕ) → Board n j → Board P.speakers i → Took M j (hand i (P.echo i)) voted
  unfolding echoed
  took_echo i j b c = took_later M echoed_later (rounds_took M strayed n (λ i. i) (λ i j. P.echo i) j b P.speakers i c)

  took_vote : (i j : ℕ) → Board n j → Board P.speakers i → Took M j (hand i P.vote) voted
  unfolding voted
  took_vote i j b c = rounds_took M echoed n (λ i. i) (λ i j. P.vote) j b P.speakers i c

  -- and no other: of a board that is not the sender and does not speak, only what is refused
  pub took_why : (j a : ℕ) (x : M.Rec) → (a ≡ P.S → ⊥) → (Board P.speakers a → ⊥) → Took M j (hand a x) voted
      → (k : ℕ) × Board P.strays.rounds k × (a ≡ P.strays.from k) × (x ≡ P.strays.stray k j)
  unfolding voted echoed strayed sent
  took_why j a x other mute t = elim (rounds_took_why M echoed n (λ i. i) (λ i j. P.vote) P.speakers t) [
    | inr (k, b, e, q) ↦ absurd (mute (subst (Board P.speakers) (sym e) b))
    | inl t ↦ elim (rounds_took_why M strayed n (λ i. i) (λ i j. P.echo i) P.speakers t) [
      | inr (k, b, e, q) ↦ absurd (mute (subst (Board P.speakers) (sym e) b))
      | inl t ↦ elim (rounds_took_why M sent n P.strays.from P.strays.stray P.strays.rounds t) [
        | inr found ↦ found
        | inl t ↦ elim (round_took_why M fresh n P.S P.mail t) [ inl t ↦ absurd (no_took M t) | inr (e, q) ↦ absurd (other e) ]
      ]
    ]
  ]

  -- What board j does in it, by its states E j i after i echoes and W j i after i votes: echo q + 1 brings its vote, vote q + 1 the delivery of d.
  pub record Plays (q : ℕ) (E W : ℕ → ℕ → M.State) (d : M.Result) : Type 0 where
    pub speakers_few : P.speakers ≤ n
    pub quorum_few : q < P.speakers
    pub mail_next : (j : ℕ) → Board n j → M.next (M.start j) (hand P.S (P.mail j)) ≡ E j 0
    pub mail_puts : (j a : ℕ) → Board n j → M.puts (M.start j) (hand P.S (P.mail j)) a ≡ some (P.echo j)
    pub stray_next : (j k : ℕ) → Board n j → Board P.strays.rounds k → M.next (E j 0) (hand (P.strays.from k) (P.strays.stray k j)) ≡ E j 0
    pub stray_puts : (j k a : ℕ) → Board n j → Board P.strays.rounds k → M.puts (E j 0) (hand (P.strays.from k) (P.strays.stray k j)) a ≡ none
    pub echo_next : (j i : ℕ) → Board n j → i < P.speakers → M.next (E j i) (hand (suc i) (P.echo (suc i))) ≡ E j (suc i)
    pub echo_puts : (j i a : ℕ) → Board n j → i < P.speakers → (i ≡ q → ⊥) → M.puts (E j i) (hand (suc i) (P.echo (suc i))) a ≡ none
    pub echo_votes : (j a : ℕ) → Board n j → M.puts (E j q) (hand (suc q) (P.echo (suc q))) a ≡ some P.vote
    pub echo_last : (j : ℕ) → Board n j → E j P.speakers ≡ W j 0
    pub vote_next : (j i : ℕ) → Board n j → i < P.speakers → M.next (W j i) (hand (suc i) P.vote) ≡ W j (suc i)
    pub vote_puts : (j i a : ℕ) → Board n j → i < P.speakers → M.puts (W j i) (hand (suc i) P.vote) a ≡ none
    pub vote_gives : (j : ℕ) → Board n j → M.gives (W j q) (hand (suc q) P.vote) ≡ some d

  module _ {q : ℕ} {E W : ℕ → ℕ → M.State} {d : M.Result} (A : Plays q E W d) where
    -- ---- the boards' states

    -- after the sender's records, k rounds of refused ones, k echoes, k votes
    sent_state : (j : ℕ) → Board n j → state M sent j ≡ E j 0
    unfolding sent state
    sent_state j b = round_state M fresh n P.S P.mail j b ∙ A.mail_next j b

    strays_state : (j k : ℕ) → Board n j → k ≤ P.strays.rounds → state M (rounds M sent n P.strays.from P.strays.stray k) j ≡ E j 0
    strays_state j k b h = rounds_state M sent n P.strays.from P.strays.stray j b (λ i. E j 0) (sent_state j b) k
        (λ i l. A.stray_next j (suc i) b (record { low = omega arith; high = omega arith }))

    echoes_state : (j k : ℕ) → Board n j → k ≤ P.speakers → state M (rounds M strayed n (λ i. i) (λ i j. P.echo i) k) j ≡ E j k
    unfolding strayed
    echoes_state j k b h = rounds_state M strayed n (λ i. i) (λ i j. P.echo i) j b (E j) (strays_state j P.strays.rounds b (omega arith)) k
        (λ i l. A.echo_next j i b (omega arith))

    votes_state : (j k : ℕ) → Board n j → k ≤ P.speakers → state M (rounds M echoed n (λ i. i) (λ i j. P.vote) k) j ≡ W j k
    unfolding echoed
    votes_state j k b h = rounds_state M echoed n (λ i. i) (λ i j. P.vote) j b (W j) (echoes_state j P.speakers b (omega arith) ∙ A.echo_last j b) k
        (λ i l. A.vote_next j i b (omega arith))

    -- the moment at which board j is handed the record of round k, after the sender's
    pub stray_moment : (k j : ℕ) → Board P.strays.rounds k → Board n j → (r : Run M) × Later M sent r
        × Later M (after r j (hand (P.strays.from k) (P.strays.stray k j))) voted × (state M r j ≡ E j 0)
    unfolding strayed rounds round
    stray_moment zero j c b = absurd (omega arith)
    stray_moment (suc k) zero c b = absurd (omega arith)
    stray_moment (suc k) (suc j) c b =
        let from = P.strays.from in
        let ρ = P.strays.stray in
        let r = rounds M sent n from ρ k in (
          round M r j (from (suc k)) (ρ (suc k)),
          later_both M (rounds_later M sent n from ρ 0 k (omega arith)) (round_later M r 0 j (from (suc k)) (ρ (suc k)) (omega arith)),
          later_both M (later_both M (round_later M r (suc j) n (from (suc k)) (ρ (suc k)) b.high)
              (rounds_later M sent n from ρ (suc k) P.strays.rounds c.high)) strayed_later,
          round_before M r j (from (suc k)) (ρ (suc k)) (suc j) (omega arith) ∙ strays_state (suc j) k b (omega arith),
        )

    -- ---- what they put out

    echo_put : (i j : ℕ) → Board n i → Put M i j (P.echo i) strayed
    unfolding strayed sent state rounds
    echo_put i j b = put_later M (rounds_later M sent n P.strays.from P.strays.stray 0 P.strays.rounds (omega arith))
        (round_put M fresh n P.S P.mail i j (P.echo i) b (A.mail_puts i j b))

    vote_put : (i j : ℕ) → Board n i → Put M i j P.vote echoed
    unfolding echoed
    vote_put i j b =
        let few = A.quorum_few in
        rounds_put M strayed n (λ i. i) (λ i j. P.echo i) i b q P.speakers few j P.vote
        (ap (λ s. M.puts s (hand (suc q) (P.echo (suc q))) j) (echoes_state i q b (omega arith)) ∙ A.echo_votes i j b)

    -- and nothing else
    module _ (i j : ℕ) (x : M.Rec) (b : Board n i) where
      quiet : {D : Type 0} {k : ℕ} {ρ : M.Rec} {s u : M.State} → s ≡ u → M.puts u (hand k ρ) j ≡ none → M.puts s (hand k ρ) j ≡ some x → D
      quiet {k = k} {ρ} e z p = none_some x (sym z ∙ ap (λ s. M.puts s (hand k ρ) j) (sym e) ∙ p)

      strayed_only : Put M i j x strayed → x ≡ P.echo i
      unfolding strayed sent state
      strayed_only p = elim (rounds_put_why M sent n P.strays.from P.strays.stray P.strays.rounds p) [
        | inr (k, l, e) ↦ quiet (strays_state i k b (omega arith)) (A.stray_puts i (suc k) j b (record { low = omega arith; high = l })) e
        | inl p ↦ elim (round_put_why M fresh n P.S P.mail p) [
          | inl p ↦ absurd (no_put M p)
          | inr e ↦ some-injective _ _ (sym e ∙ A.mail_puts i j b)
        ]
      ]

      echoed_only : Put M i j x echoed → (x ≡ P.echo i) ⊎ (x ≡ P.vote)
      unfolding echoed
      echoed_only p = elim (rounds_put_why M strayed n (λ i. i) (λ i j. P.echo i) P.speakers p) [
        | inl p ↦ inl (strayed_only p)
        | inr (k, l, e) ↦ elim (ℕ_discrete k q) [
          | yes is ↦ inr (some-injective _ _ (sym e ∙ ap (λ s. M.puts s (hand (suc k) (P.echo (suc k))) j) (echoes_state i k b (omega arith))
              ∙ subst (λ c. M.puts (E i c) (hand (suc c) (P.echo (suc c))) j ≡ some P.vote) (sym is) (A.echo_votes i j b)))
          | no ne ↦ quiet (echoes_state i k b (omega arith)) (A.echo_puts i k j b l ne) e
        ]
      ]

      pub put_only : Put M i j x voted → (x ≡ P.echo i) ⊎ (x ≡ P.vote)
      unfolding voted
      put_only p = elim (rounds_put_why M echoed n (λ i. i) (λ i j. P.vote) P.speakers p) [
        | inl p ↦ echoed_only p
        | inr (k, l, e) ↦ quiet (votes_state i k b (omega arith)) (A.vote_puts i k j b l) e
      ]

    -- ---- so the run is fair, every record is handed over, and each board delivers

    spoken : {i : ℕ} → Board P.speakers i → Board n i
    spoken c = let few = A.speakers_few in record { low = c.low; high = omega arith }

    module _ (keeps : ℕ → Bool) (Sent : ℕ → ℕ → M.Rec → Type 0) where
      -- the sender's records, and the refused ones of boards that keep the rules, are those of Sent
      pub script_fair : ((j : ℕ) → Board n j → T (keeps P.S) → Sent P.S j (P.mail j))
          → ((k j : ℕ) → Board P.strays.rounds k → Board n j → T (keeps (P.strays.from k)) → Sent (P.strays.from k) j (P.strays.stray k j))
          → Fair M keeps Sent voted
      unfolding voted echoed strayed sent
      script_fair mails strays =
          let f0 = round_fair M Fair.begun n P.S P.mail (λ j b ki kj. inr (mails j b ki)) in
          let f1 = rounds_fair M sent n P.strays.from P.strays.stray f0 P.strays.rounds (λ k j c b ki kj. inr (strays k j c b ki)) in
          let f2 = rounds_fair M strayed n (λ i. i) (λ i j. P.echo i) f1 P.speakers (λ i j c b ki kj. inl (echo_put i j (spoken c))) in
          rounds_fair M echoed n (λ i. i) (λ i j. P.vote) f2 P.speakers (λ i j c b ki kj. inl (vote_put i j (spoken c)))

      pub script_over : ((i : ℕ) → T (keeps i) → Board P.speakers i) → ((i j : ℕ) (ρ : M.Rec) → T (keeps i) → Sent i j ρ → (i ≡ P.S) × (ρ ≡ P.mail j))
          → Over M keeps Sent voted
      unfolding Over
      script_over speak mails i j ρ ki kj g = elim g [
        | inl p ↦ elim (put_only i j ρ (of_line i ki) p) [
          | inl e ↦ subst (λ x. Took M j (hand i x) voted) (sym e) (took_echo i j (of_line j kj) (speak i ki))
          | inr e ↦ subst (λ x. Took M j (hand i x) voted) (sym e) (took_vote i j (of_line j kj) (speak i ki))
        ]
        | inr s ↦ (
            let (ei, e) = mails i j ρ ki s in
            let took = took_later M sent_later (took_mail j (of_line j kj)) in
            subst (λ a. Took M j (hand a ρ) voted) (sym ei) (subst (λ x. Took M j (hand P.S x) voted) (sym e) took))
      ]
        where
          of_line : (i : ℕ) → T (keeps i) → Board n i
          of_line i ki = spoken (speak i ki)

    pub script_delivers : (j : ℕ) → Board n j → Delivered M j d voted
    unfolding voted
    script_delivers j b =
        let few = A.quorum_few in
        rounds_delivered M echoed n (λ i. i) (λ i j. P.vote) j b q P.speakers few d
        (ap (λ s. M.gives s (hand (suc q) P.vote)) (votes_state j q b (omega arith)) ∙ A.vote_gives j b)
