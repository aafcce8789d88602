-- Runs by rounds: in a round one board's records are handed over, one to each of the boards 1 to n.
use Prim.Native.Nat.{ℕ, zero, suc, ◌≤◌, ◌<◌}
use native.Mathlib.Omega.{arith}
use native.Mathlib.Decide.{ℕ_discrete}
use mathlib.Core.Bool.{Bool}
use mathlib.Core.Path.{◌≡◌, refl, subst, sym, ◌∙◌, ap}
use mathlib.Core.Logic.{◌⊎◌, inl, inr}
use mathlib.Core.Option.{some}
use lib.Dec.{T}
use Rattle.line.specs.Boards.{Board}
use Rattle.line.specs.Run.{Machine, In, hand, Run, fresh, after, state, Took, Put, Delivered, Genuine, Fair}
use Rattle.line.proofs.Counts.{top, up}
use Rattle.line.proofs.Runs.{state_own, step_cases, last_put, last_took}

-- what holds of the last board, and of those before it, holds of each
last_or : (D : ℕ → Type 0) {n j : ℕ} → D (suc n) → (Board n j → D j) → Board (suc n) j → D j
last_or D {n} {j} d f b = elim (ℕ_discrete j (suc n)) [ yes e ↦ subst D (sym e) d | no ne ↦ f (record { low = b.low; high = omega arith }) ]

-- the run r, and then board i's record ρ j handed to each board j of 1 to n
unfoldable pub round : (M : Machine) → Run M → ℕ → ℕ → (ℕ → M.Rec) → Run M
round M r zero i ρ = r
round M r (suc n) i ρ = after (round M r n i ρ) (suc n) (hand i (ρ (suc n)))

-- the run r, and then c such rounds: in round k the records ρ k of board (from k)
unfoldable pub rounds : (M : Machine) → Run M → ℕ → (ℕ → ℕ) → (ℕ → ℕ → M.Rec) → ℕ → Run M
rounds M r n from ρ zero = r
rounds M r n from ρ (suc c) = round M (rounds M r n from ρ c) n (from (suc c)) (ρ (suc c))

-- ---- a run, and more

-- the run r, and then whatever came to the boards
pub data Later (M : Machine) (r : Run M) : Run M → Type 0 where
  same : Later M r r
  more : {q : Run M} {k : ℕ} {x : In M} → Later M r q → Later M r (after q k x)

module _ (M : Machine) where
  pub later_both : {p q r : Run M} → Later M p q → Later M q r → Later M p r
  later_both l Later.same = l
  later_both l (Later.more m) = Later.more (later_both l m)

  -- what was handed over, put out or delivered before
  pub took_later : {q r : Run M} {j : ℕ} {x : In M} → Later M q r → Took M j x q → Took M j x r
  took_later Later.same t = t
  took_later (Later.more l) t = Took.then (took_later l t)

  pub put_later : {q r : Run M} {i j : ℕ} {x : M.Rec} → Later M q r → Put M i j x q → Put M i j x r
  put_later Later.same p = p
  put_later (Later.more l) p = Put.then (put_later l p)

  delivered_later : {q r : Run M} {j : ℕ} {d : M.Result} → Later M q r → Delivered M j d q → Delivered M j d r
  delivered_later Later.same p = p
  delivered_later (Later.more l) p = Delivered.then (delivered_later l p)

  -- every record of the run went to one of the boards 1 to n
  unfoldable pub Within : ℕ → Run M → Type 0
  Within n fresh = Unit {0}
  Within n (after r j x) = Board n j × Within n r

  pub within_before : (n : ℕ) {q r : Run M} → Later M q r → Within n r → Within n q
  unfolding Within
  within_before n Later.same w = w
  within_before n (Later.more l) w = within_before n l w.1

  -- ---- a round

  -- a step of another board leaves the state
  other : (r : Run M) (k j : ℕ) (x : In M) → (k ≡ j → ⊥) → state M (after r k x) j ≡ state M r j
  other r k j x ne = step_cases M (λ s. s ≡ state M r j) j r k x (λ e. absurd (ne e)) refl

  -- a board that the round has not come to yet
  pub round_before : (r : Run M) (n i : ℕ) (ρ : ℕ → M.Rec) (j : ℕ) → suc n ≤ j → state M (round M r n i ρ) j ≡ state M r j
  unfolding round
  round_before r zero i ρ j h = refl
  round_before r (suc n) i ρ j h =
      other (round M r n i ρ) (suc n) j (hand i (ρ (suc n))) (λ e. omega arith) ∙ round_before r n i ρ j (omega arith)

  -- each board takes its record once
  pub round_state : (r : Run M) (n i : ℕ) (ρ : ℕ → M.Rec) (j : ℕ) → Board n j → state M (round M r n i ρ) j ≡ M.next (state M r j) (hand i (ρ j))
  unfolding round
  round_state r zero i ρ j b = absurd (omega arith)
  round_state r (suc n) i ρ j b = elim (ℕ_discrete j (suc n)) [
    | yes e ↦ subst (λ k. state M (round M r (suc n) i ρ) k ≡ M.next (state M r k) (hand i (ρ k))) (sym e)
        (state_own M (round M r n i ρ) (suc n) (hand i (ρ (suc n))) ∙ ap (λ s. M.next s (hand i (ρ (suc n)))) (round_before r n i ρ (suc n) (omega arith)))
    | no ne ↦ other (round M r n i ρ) (suc n) j (hand i (ρ (suc n))) (λ e. ne (sym e)) ∙ round_state r n i ρ j (record { low = b.low; high = omega arith })
  ]

  -- the first m boards of a round to n
  pub round_later : (r : Run M) (m n i : ℕ) (ρ : ℕ → M.Rec) → m ≤ n → Later M (round M r m i ρ) (round M r n i ρ)
  unfolding round
  round_later r m zero i ρ h = let e : m ≡ zero = omega arith in subst (λ a. Later M (round M r a i ρ) r) (sym e) Later.same
  round_later r m (suc n) i ρ h = elim (ℕ_discrete m (suc n)) [
    | yes e ↦ subst (λ a. Later M (round M r a i ρ) (round M r (suc n) i ρ)) (sym e) Later.same
    | no ne ↦ Later.more (round_later r m n i ρ (omega arith))
  ]

  pub round_within : (r : Run M) (n m i : ℕ) (ρ : ℕ → M.Rec) → m ≤ n → Within n r → Within n (round M r m i ρ)
  unfolding round Within
  round_within r n zero i ρ h w = w
  round_within r n (suc m) i ρ h w = (record { low = omega arith; high = h }, round_within r n m i ρ (omega arith) w)

  -- each board's record is handed over in the round
  pub round_took : (r : Run M) (n i : ℕ) (ρ : ℕ → M.Rec) (j : ℕ) → Board n j → Took M j (hand i (ρ j)) (round M r n i ρ)
  unfolding round
  round_took r zero i ρ j b = absurd (omega arith)
  round_took r (suc n) i ρ j b = last_or (λ a. Took M a (hand i (ρ a)) (round M r (suc n) i ρ)) Took.now (λ low. Took.then (round_took r n i ρ j low)) b

  pub round_took_why : (r : Run M) (n i : ℕ) (ρ : ℕ → M.Rec) {j a : ℕ} {x : M.Rec} → Took M j (hand a x) (round M r n i ρ)
      → Took M j (hand a x) r ⊎ ((a ≡ i) × (x ≡ ρ j))
  unfolding round
  round_took_why r zero i ρ t = inl t
  round_took_why r (suc n) i ρ {j} {a} {x} t = elim (last_took M t) [
    | inl t ↦ round_took_why r n i ρ t
    | inr (e, q) ↦ inr (let from : a ≡ i = cc in let is : x ≡ ρ (suc n) = cc in (from, is ∙ ap ρ e))
  ]

  -- what is put out in the round
  pub round_put : (r : Run M) (n i : ℕ) (ρ : ℕ → M.Rec) (j k : ℕ) (x : M.Rec) → Board n j → M.puts (state M r j) (hand i (ρ j)) k ≡ some x
      → Put M j k x (round M r n i ρ)
  unfolding round
  round_put r zero i ρ j k x b = absurd (omega arith)
  round_put r (suc n) i ρ j k x b = last_or (λ a. M.puts (state M r a) (hand i (ρ a)) k ≡ some x → Put M a k x (round M r (suc n) i ρ))
      (λ e. Put.now (ap (λ s. M.puts s (hand i (ρ (suc n))) k) (round_before r n i ρ (suc n) (omega arith)) ∙ e))
      (λ low e. Put.then (round_put r n i ρ j k x low e)) b

  -- what is put out after the round was put out before it, or in it
  pub round_put_why : (r : Run M) (n i : ℕ) (ρ : ℕ → M.Rec) {j k : ℕ} {x : M.Rec} → Put M j k x (round M r n i ρ)
      → Put M j k x r ⊎ (M.puts (state M r j) (hand i (ρ j)) k ≡ some x)
  unfolding round
  round_put_why r zero i ρ p = inl p
  round_put_why r (suc n) i ρ {j} {k} {x} p = elim (last_put M p) [
    | inl q ↦ round_put_why r n i ρ q
    | inr (e, q) ↦ inr (subst (λ a. M.puts (state M r a) (hand i (ρ a)) k ≡ some x) e
        (ap (λ s. M.puts s (hand i (ρ (suc n))) k) (sym (round_before r n i ρ (suc n) (omega arith)))
        ∙ subst (λ a. M.puts (state M (round M r n i ρ) a) (hand i (ρ (suc n))) k ≡ some x) (sym e) q))
  ]

  -- what is delivered in the round
  round_delivered : (r : Run M) (n i : ℕ) (ρ : ℕ → M.Rec) (j : ℕ) (d : M.Result) → Board n j → M.gives (state M r j) (hand i (ρ j)) ≡ some d
      → Delivered M j d (round M r n i ρ)
  unfolding round
  round_delivered r zero i ρ j d b = absurd (omega arith)
  round_delivered r (suc n) i ρ j d b = last_or (λ a. M.gives (state M r a) (hand i (ρ a)) ≡ some d → Delivered M a d (round M r (suc n) i ρ))
      (λ e. Delivered.now (ap (λ s. M.gives s (hand i (ρ (suc n)))) (round_before r n i ρ (suc n) (omega arith)) ∙ e))
      (λ low e. Delivered.then (round_delivered r n i ρ j d low e)) b

  -- a round of records that were genuine before it is fair
  pub round_fair : {keeps : ℕ → Bool} {Sent : ℕ → ℕ → M.Rec → Type 0} {r : Run M} → Fair M keeps Sent r → (n i : ℕ) (ρ : ℕ → M.Rec)
      → ((j : ℕ) → Board n j → T (keeps i) → T (keeps j) → Genuine M Sent r i j (ρ j)) → Fair M keeps Sent (round M r n i ρ)
  unfolding round
  round_fair fr zero i ρ g = fr
  round_fair {keeps} {Sent} {r} fr (suc n) i ρ g = Fair.went {j = suc n} (round_fair fr n i ρ (λ j b. g j (up b))) here
    where
      here : (k : ℕ) (x : M.Rec) → ◌≡◌ {A = In M} (hand i (ρ (suc n))) (hand k x) → T (keeps k) → T (keeps (suc n))
          → Genuine M Sent (round M r n i ρ) k (suc n) x
      here k x e kk kj =
          let ek : i ≡ k = cc in
          let ex : ρ (suc n) ≡ x = cc in
          elim (g (suc n) top (subst (λ a. T (keeps a)) (sym ek) kk) kj) [
            | inl p ↦ inl (subst (λ a. Put M a (suc n) x (round M r n i ρ)) ek
                (subst (λ y. Put M i (suc n) y (round M r n i ρ)) ex (put_later (round_later r 0 n i ρ (omega arith)) p)))
            | inr s ↦ inr (subst (λ a. Sent a (suc n) x) ek (subst (λ y. Sent i (suc n) y) ex s))
          ]

  -- ---- rounds

  module _ (r : Run M) (n : ℕ) (from : ℕ → ℕ) (ρ : ℕ → ℕ → M.Rec) where
    -- the first k of c rounds
    pub rounds_later : (k c : ℕ) → k ≤ c → Later M (rounds M r n from ρ k) (rounds M r n from ρ c)
    unfolding rounds round
    rounds_later k zero h = let e : k ≡ zero = omega arith in subst (λ a. Later M (rounds M r n from ρ a) r) (sym e) Later.same
    rounds_later k (suc c) h = elim (ℕ_discrete k (suc c)) [
      | yes e ↦ subst (λ a. Later M (rounds M r n from ρ a) (rounds M r n from ρ (suc c))) (sym e) Later.same
      | no ne ↦ later_both (rounds_later k c (omega arith)) (round_later (rounds M r n from ρ c) 0 n (from (suc c)) (ρ (suc c)) (omega arith))
    ]

    pub rounds_within : Within n r → (c : ℕ) → Within n (rounds M r n from ρ c)
    unfolding rounds
    rounds_within w zero = w
    rounds_within w (suc c) = round_within (rounds M r n from ρ c) n n (from (suc c)) (ρ (suc c)) (omega arith) (rounds_within w c)

    -- a board's states s 0, s 1, .. between the rounds
    pub rounds_state : (j : ℕ) → Board n j → (s : ℕ → M.State) → state M r j ≡ s 0 → (c : ℕ)
        → ((k : ℕ) → k < c → M.next (s k) (hand (from (suc k)) (ρ (suc k) j)) ≡ s (suc k)) → state M (rounds M r n from ρ c) j ≡ s c
    unfolding rounds
    rounds_state j b s e zero h = e
    rounds_state j b s e (suc c) h =
        round_state (rounds M r n from ρ c) n (from (suc c)) (ρ (suc c)) j b
        ∙ ap (λ x. M.next x (hand (from (suc c)) (ρ (suc c) j))) (rounds_state j b s e c (λ k l. h k (omega arith))) ∙ h c (omega arith)

    pub rounds_took : (j : ℕ) → Board n j → (c k : ℕ) → Board c k → Took M j (hand (from k) (ρ k j)) (rounds M r n from ρ c)
    unfolding rounds round
    rounds_took j b zero k bk = absurd (omega arith)
    rounds_took j b (suc c) k bk = last_or (λ a. Took M j (hand (from a) (ρ a j)) (rounds M r n from ρ (suc c)))
        (round_took (rounds M r n from ρ c) n (from (suc c)) (ρ (suc c)) j b)
        (λ low. took_later (round_later (rounds M r n from ρ c) 0 n (from (suc c)) (ρ (suc c)) (omega arith)) (rounds_took j b c k low)) bk

    pub rounds_took_why : {j a : ℕ} {x : M.Rec} (c : ℕ) → Took M j (hand a x) (rounds M r n from ρ c)
        → Took M j (hand a x) r ⊎ ((k : ℕ) × Board c k × (a ≡ from k) × (x ≡ ρ k j))
    unfolding rounds
    rounds_took_why zero t = inl t
    rounds_took_why (suc c) t = elim (round_took_why (rounds M r n from ρ c) n (from (suc c)) (ρ (suc c)) t) [
      | inr (e, q) ↦ inr (suc c, top, e, q)
      | inl t ↦ elim (rounds_took_why c t) [ inl t ↦ inl t | inr (k, b, e, q) ↦ inr (k, up b, e, q) ]
    ]

    -- what round k + 1 brings
    pub rounds_put : (j : ℕ) → Board n j → (k c : ℕ) → k < c → (a : ℕ) (x : M.Rec)
        → M.puts (state M (rounds M r n from ρ k) j) (hand (from (suc k)) (ρ (suc k) j)) a ≡ some x → Put M j a x (rounds M r n from ρ c)
    unfolding rounds
    rounds_put j b k c h a x e = put_later (rounds_later (suc k) c h) (round_put (rounds M r n from ρ k) n (from (suc k)) (ρ (suc k)) j a x b e)

    pub rounds_delivered : (j : ℕ) → Board n j → (k c : ℕ) → k < c → (d : M.Result)
        → M.gives (state M (rounds M r n from ρ k) j) (hand (from (suc k)) (ρ (suc k) j)) ≡ some d → Delivered M j d (rounds M r n from ρ c)
    unfolding rounds
    rounds_delivered j b k c h d e = delivered_later (rounds_later (suc k) c h) (round_delivered (rounds M r n from ρ k) n (from (suc k)) (ρ (suc k)) j d b e)

    -- what is put out after the rounds was put out before them, or in one of them
    pub rounds_put_why : {j a : ℕ} {x : M.Rec} (c : ℕ) → Put M j a x (rounds M r n from ρ c)
        → Put M j a x r ⊎ ((k : ℕ) × (k < c) × (M.puts (state M (rounds M r n from ρ k) j) (hand (from (suc k)) (ρ (suc k) j)) a ≡ some x))
    unfolding rounds
    rounds_put_why zero p = inl p
    rounds_put_why (suc c) p = elim (round_put_why (rounds M r n from ρ c) n (from (suc c)) (ρ (suc c)) p) [
      | inr e ↦ inr (c, omega arith, e)
      | inl p ↦ elim (rounds_put_why c p) [ inl p ↦ inl p | inr (k, h, e) ↦ inr (k, omega arith, e) ]
    ]

    pub rounds_fair : {keeps : ℕ → Bool} {Sent : ℕ → ℕ → M.Rec → Type 0} → Fair M keeps Sent r → (c : ℕ)
        → ((k j : ℕ) → Board c k → Board n j → T (keeps (from k)) → T (keeps j) → Genuine M Sent r (from k) j (ρ k j))
        → Fair M keeps Sent (rounds M r n from ρ c)
    unfolding rounds
    rounds_fair f zero g = f
    rounds_fair f (suc c) g = round_fair (rounds_fair f c (λ k j b. g k j (up b))) n (from (suc c)) (ρ (suc c))
        (λ j b ki kj. elim (g (suc c) j top b ki kj) [ inl p ↦ inl (put_later (rounds_later 0 c (omega arith)) p) | inr s ↦ inr s ])
