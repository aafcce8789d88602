-- A larger board's run is, for one broadcast, a run of that broadcast.
use Prim.Native.Nat.{ℕ}
use mathlib.Core.Bool.{Bool, true, false}
use mathlib.Core.Path.{◌≡◌, refl, subst, sym, ◌∙◌, ap}
use mathlib.Core.Logic.{◌⊎◌, inl, inr}
use mathlib.Core.Option.{Option, some, none}
use lib.Dec.{T, eqb, eqb→eq}
use Rattle.octets.specs.Bytes.{pick}
use Rattle.line.specs.Run.{Machine, In, hand, Run, fresh, after, state, Took, Put, Delivered, Fair, Over}
use Rattle.line.specs.Promise.{Promise}
use Rattle.line.specs.Project.{extend, project, TookSeen, OverOf, DeliveredOf, PromiseOf}
use Rattle.line.proofs.Runs.{last_put, no_put, last_given, no_given}
use Rattle.line.proofs.Tests.{none_some}

-- what f makes of something, if there is something
abbrev pub through : {X Y : Type 0} → (X → Option Y) → Option X → Option Y
through f none = none
through f (some x) = f x

pub through_all : {X : Type 0} (o : Option X) → through (λ x. some x) o ≡ o
through_all none = refl
through_all (some x) = refl

pub through_some : {X Y : Type 0} (f : X → Option Y) (o : Option X) (y : Y) → through f o ≡ some y → (x : X) × (o ≡ some x) × (f x ≡ some y)
through_some f none y e = none_some y e
through_some f (some x) y e = (x, refl, e)

-- what a board of M makes of what it sees, if it sees anything
module _ (M : Machine) (s : M.State) where
  abbrev pub next_by : Option (In M) → M.State
  next_by none = s
  next_by (some y) = M.next s y

  abbrev pub puts_by : Option (In M) → ℕ → Option M.Rec
  puts_by none k = none
  puts_by (some y) k = M.puts s y k

  abbrev pub gives_by : Option (In M) → Option M.Result
  gives_by none = none
  gives_by (some y) = M.gives s y

-- What a larger board leaves, b, puts out and delivers is what its board of M, in the state s, makes of what it sees, o.
pub record Meets (M : Machine) {State Rec Result : Type 0} (Shows : State → M.State → Type 0) (of : Rec → Option M.Rec) (res : Result → Option M.Result)
    (s : M.State) (o : Option (In M)) (b : State) (put : ℕ → Option Rec) (given : Option Result) : Type 0 where
  pub shows : Shows b (next_by M s o)
  pub puts : (k : ℕ) → through of (put k) ≡ puts_by M s o k
  pub gives : through res given ≡ gives_by M s o

-- What one step of B must meet to be one of M, or none, of the boards that keep the rules.
pub record Carries (B M : Machine) (sees : B.State → In B → Option (In M)) (keeps : ℕ → Bool) : Type 1 where
  pub Shows : ℕ → B.State → M.State → Type 0  -- board j's state of B holds this state of M
  pub of : B.Rec → Option M.Rec  -- the record as one of the broadcast
  pub res : B.Result → Option M.Result
  pub starts : (j : ℕ) → T (keeps j) → Shows j (B.start j) (M.start j)
  pub seen : (b : B.State) (x : In B) (i : ℕ) (ρ : M.Rec) → sees b x ≡ some (hand i ρ) → (β : B.Rec) × (x ≡ hand i β) × (of β ≡ some ρ)
  pub meets : (j : ℕ) (b : B.State) (s : M.State) → Shows j b s → (x : In B) → Meets M (Shows j) of res s (sees b x) (B.next b x) (B.puts b x) (B.gives b x)

module _ {B M : Machine} {sees : B.State → In B → Option (In M)} {keeps : ℕ → Bool} (A : Carries B M sees keeps) where
  grows : (q : Run M) (k j : ℕ) (o : Option (In M)) → state M (extend B M sees q k o) j ≡ pick (eqb k j) (next_by M (state M q j) o) (state M q j)
  unfolding state pick
  grows q k j none = go (eqb k j)
    where
      go : (c : Bool) → state M q j ≡ pick c (state M q j) (state M q j)
      go true = refl
      go false = refl
  grows q k j (some y) = refl

  -- each board's state holds its state in the projected run
  pub shows : (r : Run B) (j : ℕ) → T (keeps j) → A.Shows j (state B r j) (state M (project B M sees r) j)
  unfolding project state pick
  shows fresh j kj = A.starts j kj
  shows (after r k x) j kj = subst (λ s. A.Shows j (pick (eqb k j) (B.next (state B r j) x) (state B r j)) s) (sym (grows (project B M sees r) k j (sees (state B r k) x)))
      (go (shows r j kj) (eqb k j) (eqb→eq k j))
    where
      go : A.Shows j (state B r j) (state M (project B M sees r) j) → (c : Bool) → (T c → k ≡ j)
          → A.Shows j (pick c (B.next (state B r j) x) (state B r j)) (pick c (next_by M (state M (project B M sees r) j) (sees (state B r k) x)) (state M (project B M sees r) j))
      go ih true h =
          subst (λ i. A.Shows j (B.next (state B r j) x) (next_by M (state M (project B M sees r) j) (sees (state B r i) x))) (sym (h tt))
          (A.meets j (state B r j) (state M (project B M sees r) j) ih x).shows
      go ih false h = ih

  -- what a board's step meets, at the end of a run
  met : (r : Run B) (j : ℕ) → T (keeps j) → (x : In B)
      → Meets M (A.Shows j) A.of A.res (state M (project B M sees r) j) (sees (state B r j) x) (B.next (state B r j) x) (B.puts (state B r j) x) (B.gives (state B r j) x)
  met r j kj x = A.meets j (state B r j) (state M (project B M sees r) j) (shows r j kj) x

  -- ---- what is put out

  put_then : {i k : ℕ} {ρ : M.Rec} {q : Run M} (j : ℕ) (o : Option (In M)) → Put M i k ρ q → Put M i k ρ (extend B M sees q j o)
  put_then j none p = p
  put_then j (some y) p = Put.then p

  put_now : (q : Run M) (i k : ℕ) (ρ : M.Rec) (o : Option (In M)) → puts_by M (state M q i) o k ≡ some ρ → Put M i k ρ (extend B M sees q i o)
  put_now q i k ρ none e = none_some ρ e
  put_now q i k ρ (some y) e = Put.now e

  put_last : (q : Run M) (i j k : ℕ) (ρ : M.Rec) (o : Option (In M)) → Put M i k ρ (extend B M sees q j o)
      → Put M i k ρ q ⊎ ((j ≡ i) × (puts_by M (state M q i) o k ≡ some ρ))
  put_last q i j k ρ none p = inl p
  put_last q i j k ρ (some y) p = last_put M p

  -- what is put out for the broadcast is put out in its run
  pub put_on : {i k : ℕ} {β : B.Rec} {ρ : M.Rec} {r : Run B} → T (keeps i) → A.of β ≡ some ρ → Put B i k β r → Put M i k ρ (project B M sees r)
  unfolding project
  put_on {i} {k} {β} {ρ} ki h (Put.now {r} {x} e) =
      put_now (project B M sees r) i k ρ (sees (state B r i) x) (sym ((met r i ki x).puts k) ∙ ap (through A.of) e ∙ h)
  put_on {i} {k} {β} {ρ} ki h (Put.then {r} {k = j} {y} p) = put_then j (sees (state B r j) y) (put_on ki h p)

  -- what is put out in the broadcast's run was put out in the larger one
  pub put_back : (r : Run B) (i k : ℕ) → T (keeps i) → (ρ : M.Rec) → Put M i k ρ (project B M sees r) → (β : B.Rec) × Put B i k β r × (A.of β ≡ some ρ)
  unfolding project
  put_back fresh i k ki ρ p = absurd (no_put M p)
  put_back (after r j x) i k ki ρ p = elim (put_last (project B M sees r) i j k ρ (sees (state B r j) x) p) [
    | inl q ↦ (let (β, a, e) = put_back r i k ki ρ q in (β, Put.then a, e))
    | inr (ji, g) ↦ (
        let (β, a, e) = through_some A.of (B.puts (state B r i) x k) ρ
        ((met r i ki x).puts k ∙ subst (λ m. puts_by M (state M (project B M sees r) i) (sees (state B r m) x) k ≡ some ρ) ji g) in
        (β, subst (λ m. Put B i k β (after r m x)) (sym ji) (Put.now a), e))
  ]

  -- ---- what is delivered

  given_then : {j : ℕ} {e : M.Result} {q : Run M} (k : ℕ) (o : Option (In M)) → Delivered M j e q → Delivered M j e (extend B M sees q k o)
  given_then k none p = p
  given_then k (some y) p = Delivered.then p

  given_now : (q : Run M) (j : ℕ) (e : M.Result) (o : Option (In M)) → gives_by M (state M q j) o ≡ some e → Delivered M j e (extend B M sees q j o)
  given_now q j e none g = none_some e g
  given_now q j e (some y) g = Delivered.now g

  given_last : (q : Run M) (j k : ℕ) (e : M.Result) (o : Option (In M)) → Delivered M j e (extend B M sees q k o)
      → Delivered M j e q ⊎ ((k ≡ j) × (gives_by M (state M q j) o ≡ some e))
  given_last q j k e none p = inl p
  given_last q j k e (some y) p = last_given M p

  -- what is delivered in the one is delivered in the other
  pub delivered_on : {j : ℕ} {d : B.Result} {e : M.Result} {r : Run B} → T (keeps j) → A.res d ≡ some e → Delivered B j d r → Delivered M j e (project B M sees r)
  unfolding project
  delivered_on {j} {d} {e} kj h (Delivered.now {r} {x} g) =
      given_now (project B M sees r) j e (sees (state B r j) x) (sym (met r j kj x).gives ∙ ap (through A.res) g ∙ h)
  delivered_on {j} {d} {e} kj h (Delivered.then {r} {k} {y} p) = given_then k (sees (state B r k) y) (delivered_on kj h p)

  pub delivered_back : (r : Run B) (j : ℕ) → T (keeps j) → (e : M.Result) → Delivered M j e (project B M sees r) → (d : B.Result) × (A.res d ≡ some e) × Delivered B j d r
  unfolding project
  delivered_back fresh j kj e p = absurd (no_given M p)
  delivered_back (after r k x) j kj e p = elim (given_last (project B M sees r) j k e (sees (state B r k) x) p) [
    | inl q ↦ (let (d, h, a) = delivered_back r j kj e q in (d, h, Delivered.then a))
    | inr (kj', g) ↦ (
        let (d, a, h) = through_some A.res (B.gives (state B r j) x) e
        ((met r j kj x).gives ∙ subst (λ m. gives_by M (state M (project B M sees r) j) (sees (state B r m) x) ≡ some e) kj' g) in
        (d, h, subst (λ m. Delivered B j d (after r m x)) (sym kj') (Delivered.now a)))
  ]

  -- ---- what is handed over

  -- a fair run is fair for the broadcast
  pub fair_on : {SentB : ℕ → ℕ → B.Rec → Type 0} {Sent : ℕ → ℕ → M.Rec → Type 0}
      → ((i j : ℕ) (β : B.Rec) (ρ : M.Rec) → A.of β ≡ some ρ → SentB i j β → Sent i j ρ)
      → {r : Run B} → Fair B keeps SentB r → Fair M keeps Sent (project B M sees r)
  unfolding project
  fair_on sent Fair.begun = Fair.begun
  fair_on {SentB} {Sent} sent (Fair.went {r} {j} {x} f g) = go (sees (state B r j) x) refl (fair_on sent f)
    where
      go : (o : Option (In M)) → sees (state B r j) x ≡ o → Fair M keeps Sent (project B M sees r) → Fair M keeps Sent (extend B M sees (project B M sees r) j o)
      go none e ih = ih
      go (some y) e ih = Fair.went ih (λ i ρ ey ki kj. (
          let (β, ex, q) = A.seen (state B r j) x i ρ (e ∙ ap some ey) in
          elim (g i β ex ki kj) [ inl p ↦ inl (put_on ki q p) | inr s ↦ inr (sent i j β ρ q s) ]))

  -- what the broadcast saw, its board was handed
  pub took_on : {j : ℕ} {x : In B} {y : In M} {r : Run B} → TookSeen B M sees j x y r → Took M j y (project B M sees r)
  unfolding project
  took_on {j} {x} {y} (TookSeen.now {r} e) = subst (λ o. Took M j y (extend B M sees (project B M sees r) j o)) (sym e) Took.now
  took_on {j} {x} {y} (TookSeen.then {r} {k} {z} p) = go (sees (state B r k) z) (took_on p)
    where
      go : (o : Option (In M)) → Took M j y (project B M sees r) → Took M j y (extend B M sees (project B M sees r) k o)
      go none q = q
      go (some z) q = Took.then q

  -- all of the broadcast's records are handed over in its run
  over_on : {SentB : ℕ → ℕ → B.Rec → Type 0} {Sent : ℕ → ℕ → M.Rec → Type 0} {r : Run B}
      → ((i j : ℕ) (ρ : M.Rec) → Sent i j ρ → (β : B.Rec) × SentB i j β × (A.of β ≡ some ρ))
      → OverOf B M sees keeps SentB A.of A.res r → Over M keeps Sent (project B M sees r)
  unfolding Over
  over_on {r = r} sent o i j ρ ki kj (inl p) = let (β, q, e) = put_back r i j ki ρ p in took_on (o i j β ρ ki kj e (inl q))
  over_on {r = r} sent o i j ρ ki kj (inr s) = let (β, q, e) = sent i j ρ s in took_on (o i j β ρ ki kj e (inr q))

  -- ---- what is promised

  -- the promise that the broadcast keeps in its run is kept in the larger one
  pub promise_of : {S : ℕ} {SentB : ℕ → ℕ → B.Rec → Type 0} {Sent : ℕ → ℕ → M.Rec → Type 0} {result : M.Result} {Unless UnlessB : Type 0} {r : Run B}
      → ((i j : ℕ) (ρ : M.Rec) → Sent i j ρ → (β : B.Rec) × SentB i j β × (A.of β ≡ some ρ)) → (Unless → UnlessB)
      → Promise M keeps S Sent result Unless (project B M sees r) → PromiseOf B M sees keeps SentB A.of A.res S result UnlessB r
  promise_of {S} {SentB} {Sent} {result} {Unless} {UnlessB} {r} sent or_else p = record {
    agree = λ i j d e ki kj x y. weaker (p.agree i j d e ki kj (on i d ki x) (on j e kj y));
    valid = λ i d ks ki x. weaker (p.valid i d ks ki (on i d ki x));
    total = λ o h j kj. (
        let (e, x) = p.total (over_on sent o) (elim h [ inl (i, d, ki, y) ↦ inl (i, d, ki, on i d ki y) | inr ks ↦ inr ks ]) j kj in
        (e, delivered_back r j kj e x));
  }
    where
      on : (j : ℕ) (e : M.Result) → T (keeps j) → DeliveredOf B M sees keeps SentB A.of A.res j e r → Delivered M j e (project B M sees r)
      on j e kj (d, q, x) = delivered_on kj q x

      weaker : {D : Type 0} → D ⊎ Unless → D ⊎ UnlessB
      weaker (inl d) = inl d
      weaker (inr c) = inr (or_else c)

-- what is always seen is seen when it comes
pub took_seen : {B M : Machine} {sees : B.State → In B → Option (In M)} {j : ℕ} {x : In B} {y : In M} {r : Run B}
    → ((q : Run B) → sees (state B q j) x ≡ some y) → Took B j x r → TookSeen B M sees j x y r
took_seen passed (Took.now {r}) = TookSeen.now (passed r)
took_seen passed (Took.then p) = TookSeen.then (took_seen passed p)

-- A larger board that carries this broadcast alone, so that every record and every result is the broadcast's, in one way, and every record is seen.
pub promise_on : {B M : Machine} {sees : B.State → In B → Option (In M)} {keeps : ℕ → Bool} {Sent : ℕ → ℕ → B.Rec → Type 0}
    {of : B.Rec → Option M.Rec} {res : B.Result → Option M.Result} {S : ℕ} {result_b : B.Result} {result : M.Result} {Unless : Type 0} {r : Run B}
    → res result_b ≡ some result → ((d : B.Result) → (e : M.Result) × (res d ≡ some e)) → ((d d' : B.Result) → res d ≡ res d' → d ≡ d')
    → ((i j : ℕ) (β : B.Rec) (ρ : M.Rec) → T (keeps j) → of β ≡ some ρ → Took B j (hand i β) r → TookSeen B M sees j (hand i β) (hand i ρ) r)
    → PromiseOf B M sees keeps Sent of res S result Unless r → Promise B keeps S Sent result_b Unless r
unfolding Over
promise_on {B} {M} {sees} {keeps} {Sent} {of} {res} {S} {result_b} {result} {Unless} {r} is in_one one took p = record {
  agree = λ i j d d' ki kj x y. (
      let (e, q) = in_one d in
      let (e', q') = in_one d' in
      elim (p.agree i j e e' ki kj (d, q, x) (d', q', y)) [ inl h ↦ inl (one d d' (q ∙ ap some h ∙ sym q')) | inr c ↦ inr c ]);
  valid = λ i d ks ki x. (
      let (e, q) = in_one d in
      elim (p.valid i e ks ki (d, q, x)) [ inl h ↦ inl (one d result_b (q ∙ ap some h ∙ sym is)) | inr c ↦ inr c ]);
  total = λ o h j kj. (
      let (e, (d, q, x)) = p.total (λ i j β ρ ki kj e g. took i j β ρ kj e (o i j β ki kj g)) (begun h) j kj in
      (d, x));
}
  where
    begun : ((i : ℕ) × (d : B.Result) × T (keeps i) × Delivered B i d r) ⊎ T (keeps S)
        → ((i : ℕ) × (e : M.Result) × T (keeps i) × DeliveredOf B M sees keeps Sent of res i e r) ⊎ T (keeps S)
    begun (inl (i, d, ki, x)) = let (e, q) = in_one d in inl (i, e, ki, (d, q, x))
    begun (inr ks) = inr ks
