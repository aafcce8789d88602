-- A board that keeps fragments, whatever else it does: from one step to the promise of the fragment broadcast.
use Prim.Native.Nat.{ℕ, ◌-◌, ◌*◌, ◌≤◌}
use native.Mathlib.Omega.{arith}
use mathlib.Core.Bool.{Bool, ◌&&◌}
use mathlib.Core.Path.{◌≡◌, refl, subst, sym, ◌∙◌, ap}
use mathlib.Core.Logic.{◌⊎◌, inl, inr, ◌↔◌}
use mathlib.Core.Option.{Option, some}
use lib.Dec.{T}
use Rattle.line.specs.Boards.{count, Board, Keepers}
use Rattle.line.specs.Run.{Machine, In, hand, Run, after, state, Put, Delivered, Genuine, Fair, Over}
use Rattle.line.specs.Promise.{Mail, Promise}
use Rattle.line.specs.Core.{echo, vote}
use Rattle.line.proofs.Tests.{left, right}
use Rattle.line.proofs.Counts.{count_le}
use Rattle.line.proofs.Runs.{state_own, step_cases, along}
use Rattle.line.proofs.EchoVote.{Reading, EchoVote, Mute}
use Rattle.line.proofs.Quorums.{good, quorums_agree, quorum_voter, Ready}
use Rattle.line.proofs.Senders.{Sends, votes_valid}
use Rattle.line.proofs.Results.{Ends, delivered_why, total}
use Rattle.line_fragments.specs.Code.{Code}
use Rattle.line_fragments.specs.Hashed.{Hashed, InRun, CollisionIn}
use Rattle.line_fragments.specs.Laws.{CodeLaws}
use Rattle.line_fragments.proofs.Bases.{Shown, Basis, basis_on, meets, same}

-- How fragments are kept, and what a step hashes.
pub record Pieces (M : Machine) (n t : ℕ) (C : Code) (R : Reading M C.Root) (E : EchoVote M n t C.Root R) (F : Ends M n t C.Root R E) : Type 1 where
  pub usable : M.State → C.Root → ℕ → Bool  -- the boards whose kept echo names v with a correct path
  pub frag : M.State → ℕ → C.Frag  -- the fragment kept from a board
  pub told : Option C.Msg → M.Result  -- deliver this message, or void
  pub Correct : ℕ → M.Rec → Type 0  -- an echo whose path is correct at board i
  pub hashes : M.State → In M → C.Str → Type 0  -- the strings hashed in a step: path check of an accepted record, fresh encoding
  pub usable_start : (j i : ℕ) (v : C.Root) → T (usable (M.start j) v i) → ⊥
  pub usable_from : {j : ℕ} {s : M.State} → R.Good j s → (x : In M) (v : C.Root) (i : ℕ) → T (usable (M.next s x) v i)
      → (T (usable s v i) × (frag (M.next s x) i ≡ frag s i))
      ⊎ ((π : C.Path) × C.Proper (frag (M.next s x) i) × T (C.check v i (frag (M.next s x) i) π) × ((y : C.Str) → C.checked v i (frag (M.next s x) i) π y → hashes s x y))
  pub usable_in_lem : {j : ℕ} {s : M.State} → R.Good j s → (x : In M) (v : C.Root) (i : ℕ) → T (R.heard echo (M.next s x) v i)
      → (T (R.heard echo s v i) × (T (usable s v i) → T (usable (M.next s x) v i)))
      ⊎ ((ρ : M.Rec) × (x ≡ hand i ρ) × R.Says echo ρ v × (Correct i ρ → T (usable (M.next s x) v i)))
  pub put_correct : {j : ℕ} {s : M.State} → R.Good j s → (x : In M) (k : ℕ) (ρ : M.Rec) (v : C.Root) → M.puts s x k ≡ some ρ → R.Says echo ρ v → Correct j ρ
  -- the outcome: once n - 2t usable echoes name the root
  pub outcome : (s : M.State) (v : C.Root) (d : M.Result)
      → F.Outcome s v d ↔ ((n - 2 * t ≤ count (usable s v) n) × (d ≡ told (C.result v (usable s v) (frag s))))
  pub gives_hashes : {j : ℕ} {s : M.State} → R.Good j s → (x : In M) (m : C.Msg) → M.gives s x ≡ some (told (some m)) → (y : C.Str) → C.coded m y → hashes s x y

module _ {M : Machine} {n t : ℕ} {C : Code} {R : Reading M C.Root} {E : EchoVote M n t C.Root R} {F : Ends M n t C.Root R E}
    (P : Pieces M n t C R E F) where
  put_correct : {i j : ℕ} {ρ : M.Rec} {v : C.Root} {r : Run M} → R.Says echo ρ v → Put M i j ρ r → P.Correct i ρ
  put_correct {i} {j} {ρ} {v} h (Put.now {r} {x} e) = P.put_correct (good E r i) x j ρ v e h
  put_correct h (Put.then p) = put_correct h p

  module _ {keeps : ℕ → Bool} (K : Keepers n t keeps) {Sent : ℕ → ℕ → M.Rec → Type 0} (mute : Mute R Sent) where
    -- an echo kept from a board that keeps the rules is usable
    pub heard_usable : {r : Run M} → Fair M keeps Sent r → (i j : ℕ) (v : C.Root) → T (keeps i) → T (keeps j)
        → T (R.heard echo (state M r j) v i) → T (P.usable (state M r j) v i)
    unfolding state
    heard_usable Fair.begun i j v ki kj = λ h. absurd (E.heard_start echo j i v h)
    heard_usable (Fair.went {r} {j = k} {x} f g) i j v ki kj =
        step_cases M (λ s. T (R.heard echo s v i) → T (P.usable s v i)) j r k x
        (λ e h. elim (P.usable_in_lem (good E r j) x v i h) [
          | inl (o, up) ↦ up (heard_usable f i j v ki kj o)
          | inr (ρ, ex, sy, us) ↦ us (correct ρ sy (g i ρ ex ki (subst (λ a. T (keeps a)) (sym e) kj)))
        ])
        (heard_usable f i j v ki kj)
      where
        correct : (ρ : M.Rec) → R.Says echo ρ v → Genuine M Sent r i k ρ → P.Correct i ρ
        correct ρ h (inl p) = put_correct h p
        correct ρ h (inr s) = absurd (mute echo i k ρ v s h)

    -- so n - 2t echoes of boards that keep the rules have an outcome
    pub yields : {r : Run M} (f : Fair M keeps Sent r) (o : Over M keeps Sent r) (v : C.Root) (j : ℕ) → T (keeps j)
        → Ready E K mute f o v j → (d : M.Result) × F.Outcome (state M r j) v d
    yields {r} f o v j kj a = (
      P.told (C.result v (P.usable (state M r j) v) (P.frag (state M r j))),
      (P.outcome (state M r j) v _).1 (omega (arith, a.backing, more), refl),
    )
      where
        more : count (λ i. keeps i && R.heard echo (state M r j) v i) n ≤ count (P.usable (state M r j) v) n
        more = count_le (λ i. keeps i && R.heard echo (state M r j) v i) (P.usable (state M r j) v) n
            (λ i b s. heard_usable f i j v (left (keeps i) (R.heard echo (state M r j) v i) s) kj (right (keeps i) (R.heard echo (state M r j) v i) s))

  -- S and m: the sender and, if it keeps the rules, its message
  module _ (L : CodeLaws n t C) (keeps : ℕ → Bool) (S : ℕ) (m : C.Msg) where
    -- the strings hashed in the run
    abbrev By : Run M → C.Str → Type 0
    By r y = InRun C M P.hashes keeps S m r y

    by_on : (r : Run M) (k : ℕ) (x : In M) (y : C.Str) → By r y → By (after r k x) y
    by_on r k x y (inl h) = inl (Hashed.then h)
    by_on r k x y (inr h) = inr h

    usable_shown : (r : Run M) (j : ℕ) → T (keeps j) → (v : C.Root) (i : ℕ) → T (P.usable (state M r j) v i) → Shown L (By r) v i (P.frag (state M r j) i)
    usable_shown r j kj v i = along M (λ q s. T (P.usable s v i) → Shown L (By q) v i (P.frag s i)) j
        (λ h. absurd (P.usable_start j i v h))
        (λ q x ih h. elim (P.usable_from (good E q j) x v i h) [
          | inl (o, e) ↦ (let (π, p, c, b) = ih o in subst (λ a. Shown L (By (after q j x)) v i a) (sym e) (π, p, c, λ y d. by_on q j x y (b y d)))
          | inr (π, p, c, b) ↦ (π, p, c, λ y d. inl (Hashed.now kj (b y d)))
        ])
        (λ q k x ih h. let (π, p, c, b) = ih h in (π, p, c, λ y d. by_on q k x y (b y d)))
        r

    -- what a delivery rests on
    abbrev Rests : Run M → C.Root → M.Result → Type 0
    Rests r v d = (o : Option C.Msg) × (d ≡ P.told o) × Basis L (By r) v o

    rests_own : (j : ℕ) → T (keeps j) → (r : Run M) (x : In M) (v : C.Root) (d : M.Result)
        → M.gives (state M r j) x ≡ some d → F.Outcome (M.next (state M r j) x) v d → Rests (after r j x) v d
    rests_own j kj r x v d e o =
        let s' : M.State = M.next (state M r j) x in
        let (k, q) = (P.outcome s' v d).0 o in (
          C.result v (P.usable s' v) (P.frag s'),
          q,
          record {
            U = P.usable s' v;
            G = P.frag s';
            enough = k;
            shown = λ i u. subst (λ s. T (P.usable s v i) → Shown L (By (after r j x)) v i (P.frag s i)) (state_own M r j x) (usable_shown (after r j x) j kj v i) u;
            is = refl;
            anew = λ m' h y c. inl (Hashed.now kj (P.gives_hashes (good E r j) x m' (e ∙ ap some (q ∙ ap P.told h)) y c));
          },
        )

    rests : {j : ℕ} {d : M.Result} {r : Run M} → T (keeps j) → Delivered M j d r
        → (v : C.Root) × (n - t ≤ count (R.heard vote (state M r j) v) n) × Rests r v d
    rests {j} kj = delivered_why F Rests j (rests_own j kj) (λ r k x v d (o, e, b). (o, e, basis_on L (by_on r k x) b))

  -- The promise.
  pub promise : CodeLaws n t C → {S : ℕ} (D : Sends M n t C.Root R E S) {keeps : ℕ → Bool} → Keepers n t keeps → (mail : ℕ → M.Rec) → Mute R (Mail n S mail)
      → (m : C.Msg) → C.Fits m → ((j : ℕ) → Board n j → D.Fit j (mail j) (C.root m))
      → {r : Run M} → Fair M keeps (Mail n S mail) r → Promise M keeps S (Mail n S mail) (P.told (some m)) (CollisionIn C M P.hashes keeps S m r) r
  promise L {S} D {keeps} K mail mute m fm fit {r} f = record {
    agree = agree;
    valid = valid;
    total = λ o. total F D K mail mute (C.root m) fit f o (yields K mute f o);
  }
    where
      agree : (i j : ℕ) (d e : M.Result) → T (keeps i) → T (keeps j) → Delivered M i d r → Delivered M j e r → (d ≡ e) ⊎ CollisionIn C M P.hashes keeps S m r
      agree i j d e ki kj p q =
          let (v, g, (a, ea, ba)) = rests L keeps S m ki p in
          let (u, h, (b, eb, bb)) = rests L keeps S m kj q in
          let w : u ≡ v = quorums_agree E K mute f u v j i kj ki h g in
          elim (same L a b ba (subst (λ x. Basis L (By L keeps S m r) x b) w bb)) [ inl k ↦ inl (ea ∙ ap P.told k ∙ sym eb) | inr c ↦ inr c ]

      valid : (i : ℕ) (d : M.Result) → T (keeps S) → T (keeps i) → Delivered M i d r → (d ≡ P.told (some m)) ⊎ CollisionIn C M P.hashes keeps S m r
      valid i d k_s ki p =
          let (v, g, (a, ea, ba)) = rests L keeps S m ki p in
          let (j, kj, q) = quorum_voter E K mute f v i ki g in
          let w : v ≡ C.root m = votes_valid D K mail mute k_s (C.root m) fit f kj q in
          elim (meets L ba m fm (sym w) (λ y c. inr (k_s, c))) [ inl h ↦ inl (ea ∙ ap P.told h) | inr c ↦ inr c ]
