-- The quorum facts, over whatever is voted on (Bracha's properties B0 to B3).
use Prim.Native.Nat.{ℕ, ◌-◌, ◌*◌, ◌≤◌}
use native.Mathlib.Omega.{arith}
use mathlib.Core.Bool.{Bool, true, not, ◌&&◌}
use mathlib.Core.Path.{◌≡◌, refl, subst, sym}
use mathlib.Core.Logic.{◌⊎◌, inl, inr}
use mathlib.Core.Option.{some}
use lib.Dec.{T, T_not, not_T}
use Rattle.line.specs.Boards.{count, Board, Keepers}
use Rattle.line.specs.Run.{Machine, In, hand, Run, after, state, Took, Put, Genuine, Fair, Over}
use Rattle.line.specs.Core.{Word, echo, vote}
use Rattle.line.proofs.EchoVote.{Reading, EchoVote, Said, Mute}
use Rattle.line.proofs.Tests.{both, left, right, truth}
use Rattle.line.proofs.Counts.{count_le, count_find, count_meet, count_not, one_keeps, one_shared, most, many}
use Rattle.line.proofs.Runs.{state_own, step_cases, along, stays}

module _ {M : Machine} {n t : ℕ} {Val : Type 0} {R : Reading M Val} (E : EchoVote M n t Val R) where
  -- every state of a run is good
  pub good : (r : Run M) (j : ℕ) → R.Good j (state M r j)
  good r j = along M (λ q s. R.Good j s) j (E.good_start j) (λ q x g. E.good_next g x) (λ q k x g. g) r

  -- a board that has spoken is marked so
  pub said_spoke : {w : Word} {i : ℕ} {v : Val} {r : Run M} → Said R w i v r → T (R.spoke w (state M r i))
  said_spoke {w} {i} {v} (Said.now {r} {x} e) = rw state_own (E.says_once (good r i) x w v e).1
  said_spoke {w} {i} (Said.then {r} {k} {y} p) = stays M (λ s. T (R.spoke w s)) i r k y (E.spoke_stays (good r i) y w) (said_spoke p)

  unspoken : {w : Word} {i : ℕ} {v u : Val} {r : Run M} {x : In M} → R.says w (state M r i) x ≡ some v → Said R w i u r → ⊥
  unspoken {w} {i} {v} {u} {r} {x} e p = T_not (R.spoke w (state M r i)) (E.says_once (good r i) x w v e).0 (said_spoke p)

  -- a board echoes one value and votes for one value
  same_value : {w : Word} {i j : ℕ} {v u : Val} {r : Run M} → Said R w i v r → Said R w j u r → i ≡ j → v ≡ u
  same_value (Said.now e) (Said.now f) h = cc
  same_value {w} {u = u} (Said.now {r} e) (Said.then q) h = absurd (unspoken e (subst (λ k. Said R w k u r) (sym h) q))
  same_value {w} {v = v} (Said.then p) (Said.now {r} f) h = absurd (unspoken f (subst (λ k. Said R w k v r) h p))
  same_value (Said.then p) (Said.then q) h = same_value p q h

  pub one_value : {w : Word} {i : ℕ} {v u : Val} {r : Run M} → Said R w i v r → Said R w i u r → v ≡ u
  one_value p q = same_value p q refl

  -- what is put out was said, and what was said is put out for each receiver
  pub put_said : {w : Word} {i j : ℕ} {ρ : M.Rec} {v : Val} {r : Run M} → R.Says w ρ v → Put M i j ρ r → Said R w i v r
  put_said {w} {i} {j} {ρ} {v} h (Put.now {r} {x} e) = Said.now (E.put_says (good r i) x j ρ w v e h)
  put_said h (Put.then p) = Said.then (put_said h p)

  pub said_put : {w : Word} {i : ℕ} {v : Val} {r : Run M} → Said R w i v r → (k : ℕ) → Board n k → (ρ : M.Rec) × Put M i k ρ r × R.Says w ρ v
  said_put {w} {i} {v} (Said.now {r} {x} e) k b = let (ρ, p, h) = E.says_put (good r i) x w v e k b in (ρ, Put.now p, h)
  said_put (Said.then p) k b = let (ρ, q, h) = said_put p k b in (ρ, Put.then q, h)

  -- a board that is marked as having voted did
  pub spoke_said : (r : Run M) (j : ℕ) → T (R.spoke vote (state M r j)) → (v : Val) × Said R vote j v r
  spoke_said r j = along M (λ q s. T (R.spoke vote s) → (v : Val) × Said R vote j v q) j
      (λ h. absurd (E.spoke_start vote j h))
      (λ q x ih h. elim (E.voted_why (good q j) x h) [ inl o ↦ (let (v, p) = ih o in (v, Said.then p)) | inr c ↦ (c.0, Said.now c.1) ])
      (λ q k x ih h. let (v, p) = ih h in (v, Said.then p))
      r

  -- the sets of boards heard only grow
  pub heard_on : (r : Run M) (k : ℕ) (x : In M) (j : ℕ) (w : Word) (v : Val)
      → count (R.heard w (state M r j) v) n ≤ count (R.heard w (state M (after r k x) j) v) n
  heard_on r k x j w v = count_le (R.heard w (state M r j) v) (R.heard w (state M (after r k x) j) v) n
      (λ i b. stays M (λ s. T (R.heard w s v i)) j r k x (E.heard_stays (good r j) x w v i))

  module _ {keeps : ℕ → Bool} (K : Keepers n t keeps) {Sent : ℕ → ℕ → M.Rec → Type 0}
      (mute : Mute R Sent) where
    pub genuine_said : {w : Word} {i j : ℕ} {ρ : M.Rec} {v : Val} {r : Run M} → R.Says w ρ v → Genuine M Sent r i j ρ → Said R w i v r
    genuine_said h (inl p) = put_said h p
    genuine_said {w} {i} {j} {ρ} {v} h (inr s) = absurd (mute w i j ρ v s h)

    -- what a board has kept from a board that keeps the rules was said, even before the step in which it is kept
    pub heard_said : {r : Run M} → Fair M keeps Sent r → (w : Word) (i j : ℕ) (v : Val) → T (keeps i) → T (keeps j)
        → T (R.heard w (state M r j) v i) → Said R w i v r
    unfolding state
    heard_said Fair.begun w i j v ki kj = λ h. absurd (E.heard_start w j i v h)
    heard_said (Fair.went {r} {j = k} {x} f g) w i j v ki kj =
        step_cases M (λ s. T (R.heard w s v i) → Said R w i v (after r k x)) j r k x
        (λ e h. elim (E.heard_from (good r j) x w v i h) [
          | inl o ↦ Said.then (heard_said f w i j v ki kj o)
          | inr c ↦ Said.then (genuine_said c.2 (g i c.0 c.1 ki (subst (λ m. T (keeps m)) (sym e) kj)))
        ])
        (λ h. Said.then (heard_said f w i j v ki kj h))

    pub heard_before : {r : Run M} {j : ℕ} {x : In M} → Fair M keeps Sent (after r j x) → (w : Word) (i : ℕ) (v : Val) → T (keeps i) → T (keeps j)
        → T (R.heard w (M.next (state M r j) x) v i) → Said R w i v r
    heard_before {j = j} (Fair.went {r} {x = x} f g) w i v ki kj h = elim (E.heard_from (good r j) x w v i h) [
      | inl o ↦ heard_said f w i j v ki kj o
      | inr c ↦ genuine_said c.2 (g i c.0 c.1 ki kj)
    ]

    -- ---- where votes come from

    -- one that keeps the rules has heard n - t echoes of v
    abbrev pub Source : Val → Run M → Type 0
    Source v r = (j : ℕ) × T (keeps j) × (n - t ≤ count (R.heard echo (state M r j) v) n)

    source_on : (v : Val) (r : Run M) (k : ℕ) (x : In M) → Source v r → Source v (after r k x)
    source_on v r k x (j, kj, h) = (j, kj, omega (arith, heard_on r k x j echo v))

    pub vote_source : {i : ℕ} {v : Val} {r : Run M} → Fair M keeps Sent r → T (keeps i) → Said R vote i v r → Source v r
    vote_source Fair.begun ki p = elim p [ ]
    vote_source {v = v} (Fair.went f g) ki (Said.then {r} {k} {y} p) = source_on v r k y (vote_source f ki p)
    vote_source {i} {v} (Fair.went f g) ki (Said.now {r} {x} e) = elim (E.vote_why (good r i) x v e) [
      | inl h ↦ (i, ki, rw state_own h)
      | inr h ↦ (
          let (k, kk, hk) = one_keeps K (R.heard vote (M.next (state M r i) x) v) h in
          source_on v r i x (vote_source {i = k} f kk (heard_before (Fair.went f g) vote k v kk ki hk)))
    ]

    -- Source document 000, Bracha Property B2: "If an honest party votes for a message, then at least n - t - t' honest parties must
    -- have echoed the same message." p are these parties; t' is the number of boards that break the rules.
    pub B2 : {i : ℕ} {v : Val} {r : Run M} → Fair M keeps Sent r → T (keeps i) → Said R vote i v r
        → (p : ℕ → Bool) × ((j : ℕ) → T (p j) → T (keeps j) × Said R echo j v r) × (n - t - count (λ j. not (keeps j)) n ≤ count p n)
    B2 {v = v} {r} f ki s =
        let (k, kk, h) = vote_source f ki s in
        let p : ℕ → Bool = λ j. keeps j && R.heard echo (state M r k) v j in (
          p,
          λ j a. (let kj = left (keeps j) _ a in (kj, heard_said f echo j k v kj kk (right (keeps j) _ a))),
          omega (arith, count_not keeps n, count_meet keeps (R.heard echo (state M r k) v) n),
        )

    -- so one of them echoed it
    pub one_echoed : {i : ℕ} {v : Val} {r : Run M} → Fair M keeps Sent r → T (keeps i) → Said R vote i v r → (j : ℕ) × T (keeps j) × Said R echo j v r
    one_echoed f ki s =
        let (p, h, c) = B2 f ki s in
        let (j, b, a) = count_find p n (omega (arith, K.third, K.few)) in
        let (kj, e) = h j a in
        (j, kj, e)

    -- Source document 000, Bracha Property B3: "If two honest parties vote for a message, they must vote for the same message."
    pub B3 : {i j : ℕ} {v u : Val} {r : Run M} → Fair M keeps Sent r → T (keeps i) → T (keeps j) → Said R vote i v r → Said R vote j u r → v ≡ u
    B3 {v = v} {u} {r} f ki kj p q =
        let (a, ka, g) = vote_source f ki p in
        let (b, kb, h) = vote_source f kj q in
        let (e, ke, x, y) = one_shared K (R.heard echo (state M r a) v) (R.heard echo (state M r b) u) g h in
        one_value (heard_said f echo e a v ke ka x) (heard_said f echo e b u ke kb y)

    -- n - t votes that one has heard have one of a board that keeps the rules among them
    pub quorum_voter : {r : Run M} → Fair M keeps Sent r → (v : Val) (j : ℕ) → T (keeps j) → n - t ≤ count (R.heard vote (state M r j) v) n
        → (i : ℕ) × T (keeps i) × Said R vote i v r
    quorum_voter {r} f v j kj h =
        let (i, ki, a) = one_keeps K (R.heard vote (state M r j) v) (omega (arith, K.third)) in
        (i, ki, heard_said f vote i j v ki kj a)

    pub quorums_agree : {r : Run M} → Fair M keeps Sent r → (v u : Val) (i j : ℕ) → T (keeps i) → T (keeps j)
        → n - t ≤ count (R.heard vote (state M r i) v) n → n - t ≤ count (R.heard vote (state M r j) u) n → v ≡ u
    quorums_agree f v u i j ki kj g h =
        let (a, ka, p) = quorum_voter f v i ki g in
        let (b, kb, q) = quorum_voter f u j kj h in
        B3 f ka kb p q

    -- ---- every record has been handed over

    took_heard : {w : Word} {i j : ℕ} {ρ : M.Rec} {v : Val} {r : Run M} → Board n i → R.Says w ρ v → Took M j (hand i ρ) r
        → T (R.done (state M r j)) ⊎ ((u : Val) × T (R.heard w (state M r j) u i))
    took_heard {w} {i} {j} {ρ} {v} b h (Took.now {r}) = rw state_own (E.heard_in (good r j) i ρ w v b h)
    took_heard {w} {i} {j} b h (Took.then {r} {k} {y} p) = elim (took_heard b h p) [
      | inl d ↦ inl (stays M (λ s. T (R.done s)) j r k y (E.done_stays (good r j) y) d)
      | inr c ↦ inr (c.0, stays M (λ s. T (R.heard w s c.0 i)) j r k y (E.heard_stays (good r j) y w c.0 i) c.1)
    ]

    module _ {r : Run M} (f : Fair M keeps Sent r) (o : Over M keeps Sent r) where
      -- what one board that keeps the rules said, each of them has heard, or is done
      pub all_heard : (w : Word) (i j : ℕ) (v : Val) → T (keeps i) → T (keeps j) → Said R w i v r
          → T (R.done (state M r j)) ⊎ T (R.heard w (state M r j) v i)
      unfolding Over
      all_heard w i j v ki kj p =
          let (ρ, q, h) = said_put p j (K.known j kj) in
          elim (took_heard (K.known i ki) h (o i j ρ ki kj (inl q))) [
            | inl d ↦ inl d
            | inr c ↦ inr (subst (λ u. T (R.heard w (state M r j) u i)) (one_value (heard_said f w i j c.0 ki kj c.1) p) c.1)
          ]

      -- so a set of boards that said v is a set of boards that each has heard
      spread : (w : Word) (j : ℕ) (v : Val) (p : ℕ → Bool) → T (keeps j) → T (not (R.done (state M r j)))
          → ((i : ℕ) → T (keeps i) → T (p i) → Said R w i v r)
          → count (λ i. keeps i && p i) n ≤ count (λ i. keeps i && R.heard w (state M r j) v i) n
      spread w j v p kj nd h = count_le (λ i. keeps i && p i) (λ i. keeps i && R.heard w (state M r j) v i) n
          (λ i b s. let ki = left (keeps i) (p i) s in both (keeps i) (R.heard w (state M r j) v i) ki
          (elim (all_heard w i j v ki kj (h i ki (right (keeps i) (p i) s))) [ inl d ↦ absurd (T_not (R.done (state M r j)) nd d) | inr g ↦ g ]))

      heard_all : (w : Word) (j : ℕ) (v : Val) → T (keeps j) → T (not (R.done (state M r j)))
          → ((i : ℕ) → T (keeps i) → Said R w i v r) → n - t ≤ count (R.heard w (state M r j) v) n
      heard_all w j v kj nd h = omega (arith, spread w j v (λ i. true) kj nd (λ i ki s. h i ki), many K, keeps_true, within)
        where
          keeps_true : count keeps n ≤ count (λ i. keeps i && true) n
          keeps_true = count_le keeps (λ i. keeps i && true) n (λ i b s. both (keeps i) true s tt)

          within : count (λ i. keeps i && R.heard w (state M r j) v i) n ≤ count (R.heard w (state M r j) v) n
          within = count_le (λ i. keeps i && R.heard w (state M r j) v i) (R.heard w (state M r j) v) n (λ i b. right (keeps i) (R.heard w (state M r j) v i))

      -- a board votes if it cannot be neither voted nor done
      votes_or : (j : ℕ)
          → (T (not (R.spoke vote (state M r j))) → T (not (R.done (state M r j))) → ⊥) → (u : Val) × Said R vote j u r
      votes_or j late = elim (truth (R.spoke vote (state M r j))) [
        | inl s ↦ spoke_said r j s
        | inr s ↦ absurd (late s (not_T (R.done (state M r j)) (λ d. T_not (R.spoke vote (state M r j)) s (E.done_voted (good r j) d))))
      ]

      -- Source document 000, Bracha Property B0: "If an honest party receives n - t votes for the same message, then all honest parties
      -- will eventually vote for some message." Eventually: once every record between them has been handed over.
      pub B0 : (v : Val) (q : ℕ) → T (keeps q) → n - t ≤ count (R.heard vote (state M r q) v) n
          → (j : ℕ) → T (keeps j) → (u : Val) × Said R vote j u r
      B0 v q kq h j kj = votes_or j (λ s nd. omega (
        arith,
        K.third,
        most K (R.heard vote (state M r q) v),
        (E.vote_due (good r j) v s).1,
        spread vote j v (R.heard vote (state M r q) v) kj nd (λ i ki g. heard_said f vote i q v ki kq g),
        count_le (λ i. keeps i && R.heard vote (state M r j) v i) (R.heard vote (state M r j) v) n (λ i b. right (keeps i) (R.heard vote (state M r j) v i)),
      ))

      -- by B3, for that message
      pub quorum_spreads : (v : Val) (q : ℕ) → T (keeps q) → n - t ≤ count (R.heard vote (state M r q) v) n
          → (j : ℕ) → T (keeps j) → Said R vote j v r
      quorum_spreads v q kq h j kj =
          let (u, p) = B0 v q kq h j kj in
          let (i, ki, c) = quorum_voter f v q kq h in
          subst (λ a. Said R vote j a r) (B3 f kj ki p c) p

      -- where each echoed v, each votes
      pub echoes_spread : (v : Val) → ((i : ℕ) → T (keeps i) → Said R echo i v r) → (j : ℕ) → T (keeps j) → (u : Val) × Said R vote j u r
      echoes_spread v h j kj = votes_or j (λ s nd. omega (arith, (E.vote_due (good r j) v s).0, heard_all echo j v kj nd h))

      -- Where each voted for v, each that is not done has heard n - t votes for v, and the echoes of n - 2t that keep the rules.
      pub record Ready (v : Val) (j : ℕ) : Type 0 where
        pub voted : T (R.spoke vote (state M r j))
        pub quorum : n - t ≤ count (R.heard vote (state M r j) v) n
        pub backing : n - 2 * t ≤ count (λ i. keeps i && R.heard echo (state M r j) v i) n

      pub ready : (v : Val) → ((i : ℕ) → T (keeps i) → Said R vote i v r) → (j : ℕ) → T (keeps j) → T (not (R.done (state M r j))) → Ready v j
      ready v h j kj nd =
          let (q, kq, src) = vote_source f kj (h j kj) in
          record {
            voted = said_spoke (h j kj);
            quorum = heard_all vote j v kj nd h;
            backing = omega (
              arith,
              most K (R.heard echo (state M r q) v),
              spread echo j v (R.heard echo (state M r q) v) kj nd (λ i ki g. heard_said f echo i q v ki kq g),
            );
          }
