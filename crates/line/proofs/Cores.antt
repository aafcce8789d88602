-- A kind of board that keeps its echoes and votes in a core meets what the quorum facts ask.
use Prim.Native.Nat.{ℕ, ◌-◌, ◌*◌, ◌≤◌, ◌<◌}
use native.Mathlib.Omega.{arith}
use mathlib.Core.Bool.{Bool, true, false, not, ◌&&◌}
use mathlib.Core.Path.{◌≡◌, refl, subst, sym, ◌∙◌, ap}
use mathlib.Core.Logic.{◌⊎◌, inl, inr}
use mathlib.Core.Option.{Option, some, none}
use lib.Dec.{T, T_not, leb, leb→le, le→leb, nleb→lt}
use Rattle.line.specs.Boards.{count, most_boards, some_boards, Board}
use Rattle.line.specs.Run.{Machine, In, hand}
use Rattle.line.specs.Core.{Word, echo, vote, set_at, Core, Move, still, acquire, hear, keep, named_by, due_by, quorum, due, moved, said}
use Rattle.line.proofs.Tests.{both, left, right, truth, or_cases, or_left, or_right, not_or, none_some, chosen, pick_true}
use Rattle.line.proofs.Counts.{count_le, count_none}
use Rattle.line.proofs.Named.{named, named_from, named_stays, named_there}
use Rattle.line.proofs.EchoVote.{Reading, EchoVote}

-- ---- the tests of a step, in numbers

due_why : (n t echoes votes : ℕ) → T (due_by n t echoes votes) → (n - t ≤ echoes) ⊎ (t < votes)
unfolding due_by
due_why n t echoes votes h = elim (or_cases (leb (most_boards n t) echoes) (leb (some_boards t) votes) h)
    [ inl a ↦ inl (omega (arith, leb→le (most_boards n t) echoes a)) | inr b ↦ inr (omega (arith, leb→le (some_boards t) votes b)) ]

not_due : (n t echoes votes : ℕ) → T (not (due_by n t echoes votes)) → (echoes < n - t) × (votes ≤ t)
unfolding due_by
not_due n t echoes votes h =
    let (a, b) = not_or (leb (most_boards n t) echoes) (leb (some_boards t) votes) h in
    (omega (arith, nleb→lt (most_boards n t) echoes a), omega (arith, nleb→lt (some_boards t) votes b))

module _ (n t : ℕ) {Val : Type 0} (same : Val → Val → Bool) (c : Core Val) (v : Val) where
  pub quorum_why : T (quorum n t same c v) → n - t ≤ count (named_by same c vote v) n
  quorum_why h = omega (arith, leb→le (most_boards n t) (count (named_by same c vote v) n) h)

  pub quorum_is : n - t ≤ count (named_by same c vote v) n → T (quorum n t same c v)
  quorum_is h = le→leb (most_boards n t) (count (named_by same c vote v) n) (omega arith)

-- no vote is overdue (document 01: "not voted, no root has n-t echoes or t+1 votes")
abbrev pub NotOverdue : (n t : ℕ) {Val : Type 0} → (Val → Val → Bool) → Core Val → Type 0
NotOverdue n t {Val} same c = (v : Val) → T (not (c.spoke vote)) → (count (named_by same c echo v) n < n - t) × (count (named_by same c vote v) n ≤ t)

-- A kind of board with such a core.
pub record HasCore (M : Machine) (n t : ℕ) (Val : Type 0) (same : Val → Val → Bool) : Type 1 where
  pub third : 3 * t < n
  pub same_eq : (u v : Val) → T (same u v) → u ≡ v
  pub same_refl : (v : Val) → T (same v v)
  pub Says : Word → M.Rec → Val → Type 0
  pub core : M.State → Core Val
  pub move : M.State → In M → Move Val
  pub done : M.State → Bool
  pub More : ℕ → M.State → Type 0  -- what else holds of board j's states
  pub more_start : (j : ℕ) → More j (M.start j)
  pub more_next : {j : ℕ} {s : M.State} → More j s → NotOverdue n t same (core s) → (x : In M) → More j (M.next s x)
  pub core_start : (j : ℕ) (w : Word) → T ((core (M.start j)).spoke w) → ⊥
  pub core_empty : (j : ℕ) (w : Word) (i : ℕ) → T ((core (M.start j)).set w i) → ⊥
  pub core_next : {j : ℕ} {s : M.State} → More j s → (x : In M) → core (M.next s x) ≡ moved n t same (core s) (move s x)
  -- a board's first echo (vote) is heard, unless the board is done
  pub hear_why : {j : ℕ} {s : M.State} → More j s → (x : In M) (w : Word) (i : ℕ) (v : Val) → move s x ≡ hear w i v
      → ((ρ : M.Rec) × (x ≡ hand i ρ) × Says w ρ v) × T (not ((core s).set w i))
  pub hear_in : {j : ℕ} {s : M.State} → More j s → (i : ℕ) (ρ : M.Rec) (w : Word) (v : Val) → Board n i → Says w ρ v → T (not (done s)) → T (not ((core s).set w i))
      → move s (hand i ρ) ≡ hear w i v
  pub acquire_why : {j : ℕ} {s : M.State} → More j s → (x : In M) (o : Option Val) → move s x ≡ acquire o → T (not ((core s).spoke echo))
  -- what is said is put out, for each board
  pub put_says : {j : ℕ} {s : M.State} → More j s → (x : In M) (k : ℕ) (ρ : M.Rec) (w : Word) (v : Val) → M.puts s x k ≡ some ρ → Says w ρ v
      → said n t same (core s) (move s x) w ≡ some v
  pub says_put : {j : ℕ} {s : M.State} → More j s → (x : In M) (w : Word) (v : Val) → said n t same (core s) (move s x) w ≡ some v
      → (k : ℕ) → Board n k → (ρ : M.Rec) × (M.puts s x k ≡ some ρ) × Says w ρ v
  pub done_stays : {j : ℕ} {s : M.State} → More j s → (x : In M) → T (done s) → T (done (M.next s x))
  pub done_voted : {j : ℕ} {s : M.State} → More j s → T (done s) → T ((core s).spoke vote)

module _ (n t : ℕ) {Val : Type 0} (same : Val → Val → Bool) (same_eq : (u v : Val) → T (same u v) → u ≡ v) (same_refl : (v : Val) → T (same v v)) where
  -- ---- one board more in a set

  pub new_from : (c : Core Val) (w : Word) (i : ℕ) (u : Val) (w' : Word) (v : Val) (k : ℕ) → T (named_by same (keep c w i u) w' v k)
      → T (named_by same c w' v k) ⊎ ((k ≡ i) × (w ≡ w') × (u ≡ v))
  new_from c w i u w' v k = words w w'
    where
      go : (w : Word) → T (named same (set_at (c.set w) i true) (set_at (c.val w) i u) v k) → T (named_by same c w v k) ⊎ ((k ≡ i) × (w ≡ w) × (u ≡ v))
      go w h = elim (named_from same same_eq (c.set w) (c.val w) i true u v k h) [ inl o ↦ inl o | inr (ek, ev, t) ↦ inr (ek, refl, ev) ]

      words : (w w' : Word) → T (named_by same (keep c w i u) w' v k) → T (named_by same c w' v k) ⊎ ((k ≡ i) × (w ≡ w') × (u ≡ v))
      words echo echo = go echo
      words vote vote = go vote
      words echo vote = λ h. inl h
      words vote echo = λ h. inl h

  pub new_stays : (c : Core Val) (w : Word) (i : ℕ) (u : Val) (w' : Word) (v : Val) (k : ℕ) → T (not (c.set w i))
      → T (named_by same c w' v k) → T (named_by same (keep c w i u) w' v k)
  new_stays c echo i u echo v k = named_stays same (c.set echo) (c.val echo) i true u v k
  new_stays c vote i u vote v k = named_stays same (c.set vote) (c.val vote) i true u v k
  new_stays c echo i u vote v k = λ ni h. h
  new_stays c vote i u echo v k = λ ni h. h

  new_there : (c : Core Val) (w : Word) (i : ℕ) (u : Val) → T (named_by same (keep c w i u) w u i)
  new_there c echo i u = named_there same same_refl (c.set echo) (c.val echo) i true u tt
  new_there c vote i u = named_there same same_refl (c.set vote) (c.val vote) i true u tt

  pub new_count : (c : Core Val) (w : Word) (i : ℕ) (u : Val) (w' : Word) (v : Val) → (u ≡ v → ⊥) → count (named_by same (keep c w i u) w' v) n ≤ count (named_by same c w' v) n
  new_count c w i u w' v ne = count_le (named_by same (keep c w i u) w' v) (named_by same c w' v) n
      (λ k b h. elim (new_from c w i u w' v k h) [ inl g ↦ g | inr (a, d, e) ↦ absurd (ne e) ])

  -- ---- no vote is overdue

  pub overdue_next : (c : Core Val) (m : Move Val) → NotOverdue n t same c → NotOverdue n t same (moved n t same c m)
  overdue_next c still h v nv = h v nv
  overdue_next c (acquire o) h v nv = h v nv
  overdue_next c (hear w i u) h v nv =
      let (no_vote, nd) = not_or (c.spoke vote) (due n t same (keep c w i u) u) nv in
      elim (truth (same u v)) [
        | inl e ↦ subst (λ a. (count (named_by same (keep c w i u) echo a) n < n - t) × (count (named_by same (keep c w i u) vote a) n ≤ t)) (same_eq u v e) (mine nd)
        | inr ne ↦ (
            let (a, b) = h v no_vote in
            let d : u ≡ v → ⊥ = λ e. T_not (same u v) ne (subst (λ a. T (same u a)) e (same_refl u)) in
            (omega (arith, new_count c w i u echo v d), omega (arith, new_count c w i u vote v d)))
      ]
    where
      mine : T (not (due n t same (keep c w i u) u)) → (count (named_by same (keep c w i u) echo u) n < n - t) × (count (named_by same (keep c w i u) vote u) n ≤ t)
      mine nd = not_due n t (count (named_by same (keep c w i u) echo u) n) (count (named_by same (keep c w i u) vote u) n) nd

module _ {M : Machine} {n t : ℕ} {Val : Type 0} {same : Val → Val → Bool} (A : HasCore M n t Val same) where
  -- ---- the laws

  abbrev pub reading : Reading M Val
  reading = record {
    Says = A.Says;
    says = λ w s x. said n t same (A.core s) (A.move s x) w;
    heard = λ w s v i. named_by same (A.core s) w v i;
    spoke = λ w s. (A.core s).spoke w;
    done = A.done;
    Good = λ j s. A.More j s × NotOverdue n t same (A.core s);
  }

  module _ {j : ℕ} {s : M.State} (g : A.More j s) (x : In M) where
    -- what holds of each move's next core holds of the step's
    by_move : (P : Core Val → (Word → Option Val) → Type 0)
        → ((m : Move Val) → A.move s x ≡ m → P (moved n t same (A.core s) m) (λ w. said n t same (A.core s) m w))
        → P (A.core (M.next s x)) (λ w. said n t same (A.core s) (A.move s x) w)
    by_move P f = subst (λ c. P c (λ w. said n t same (A.core s) (A.move s x) w)) (sym (A.core_next g x)) (f (A.move s x) refl)

    heard_from : (w : Word) (v : Val) (i : ℕ) → T (named_by same (A.core (M.next s x)) w v i) → T (named_by same (A.core s) w v i) ⊎ ((ρ : M.Rec) × (x ≡ hand i ρ) × A.Says w ρ v)
    heard_from w v i = by_move (λ c y. T (named_by same c w v i) → T (named_by same (A.core s) w v i) ⊎ ((ρ : M.Rec) × (x ≡ hand i ρ) × A.Says w ρ v)) go
      where
        go : (m : Move Val) → A.move s x ≡ m → T (named_by same (moved n t same (A.core s) m) w v i)
            → T (named_by same (A.core s) w v i) ⊎ ((ρ : M.Rec) × (x ≡ hand i ρ) × A.Says w ρ v)
        go still e h = inl h
        go (acquire o) e h = inl h
        go (hear w' k u) e h = elim (new_from n t same A.same_eq A.same_refl (A.core s) w' k u w v i h) [
          | inl o ↦ inl o
          | inr (ek, ew, eu) ↦ (
              let ((ρ, ex, sy), ns) = A.hear_why g x w' k u e in
              inr (ρ, rw ek ex, rw (← ew, ← eu) sy))
        ]

    heard_stays : (w : Word) (v : Val) (i : ℕ) → T (named_by same (A.core s) w v i) → T (named_by same (A.core (M.next s x)) w v i)
    heard_stays w v i h = by_move (λ c y. T (named_by same c w v i)) go
      where
        go : (m : Move Val) → A.move s x ≡ m → T (named_by same (moved n t same (A.core s) m) w v i)
        go still e = h
        go (acquire o) e = h
        go (hear w' k u) e = new_stays n t same A.same_eq A.same_refl (A.core s) w' k u w v i (A.hear_why g x w' k u e).1 h

    pub spoke_stays : (w : Word) → T ((A.core s).spoke w) → T ((A.core (M.next s x)).spoke w)
    spoke_stays w h = by_move (λ c y. T (c.spoke w)) (λ m e. go w m h)
      where
        go : (w : Word) (m : Move Val) → T ((A.core s).spoke w) → T ((moved n t same (A.core s) m).spoke w)
        go w still h = h
        go echo (acquire o) h = tt
        go vote (acquire o) h = h
        go echo (hear w' k u) h = h
        go vote (hear w' k u) h = or_left ((A.core s).spoke vote) _ h

    says_once : (w : Word) (v : Val) → said n t same (A.core s) (A.move s x) w ≡ some v → T (not ((A.core s).spoke w)) × T ((A.core (M.next s x)).spoke w)
    says_once w v = by_move (λ c y. y w ≡ some v → T (not ((A.core s).spoke w)) × T (c.spoke w)) (go w)
      where
        go : (w : Word) (m : Move Val) → A.move s x ≡ m → said n t same (A.core s) m w ≡ some v → T (not ((A.core s).spoke w)) × T ((moved n t same (A.core s) m).spoke w)
        go w still e q = none_some v q
        go echo (acquire o) e q = (A.acquire_why g x o e, tt)
        go vote (acquire o) e q = none_some v q
        go echo (hear w' k u) e q = none_some v q
        go vote (hear w' k u) e q =
            let (b, r) = chosen (not ((A.core s).spoke vote) && due n t same (keep (A.core s) w' k u) u) u v q in
            (left (not ((A.core s).spoke vote)) _ b, or_right ((A.core s).spoke vote) _ (right (not ((A.core s).spoke vote)) _ b))

    vote_why : (v : Val) → said n t same (A.core s) (A.move s x) vote ≡ some v
        → (n - t ≤ count (named_by same (A.core (M.next s x)) echo v) n) ⊎ (t < count (named_by same (A.core (M.next s x)) vote v) n)
    vote_why v = by_move (λ c y. y vote ≡ some v → (n - t ≤ count (named_by same c echo v) n) ⊎ (t < count (named_by same c vote v) n)) go
      where
        go : (m : Move Val) → A.move s x ≡ m → said n t same (A.core s) m vote ≡ some v
            → (n - t ≤ count (named_by same (moved n t same (A.core s) m) echo v) n) ⊎ (t < count (named_by same (moved n t same (A.core s) m) vote v) n)
        go still e q = none_some v q
        go (acquire o) e q = none_some v q
        go (hear w' k u) e q =
            let c = keep (A.core s) w' k u in
            let (b, r) = chosen (not ((A.core s).spoke vote) && due n t same c u) u v q in
            subst (λ a. (n - t ≤ count (named_by same c echo a) n) ⊎ (t < count (named_by same c vote a) n)) r
            (due_why n t (count (named_by same c echo u) n) (count (named_by same c vote u) n) (right (not ((A.core s).spoke vote)) _ b))

    voted_why : T ((A.core (M.next s x)).spoke vote) → T ((A.core s).spoke vote) ⊎ ((v : Val) × (said n t same (A.core s) (A.move s x) vote ≡ some v))
    voted_why = by_move (λ c y. T (c.spoke vote) → T ((A.core s).spoke vote) ⊎ ((v : Val) × (y vote ≡ some v))) go
      where
        go : (m : Move Val) → A.move s x ≡ m → T ((moved n t same (A.core s) m).spoke vote) → T ((A.core s).spoke vote) ⊎ ((v : Val) × (said n t same (A.core s) m vote ≡ some v))
        go still e h = inl h
        go (acquire o) e h = inl h
        go (hear w' k u) e h = elim (truth ((A.core s).spoke vote)) [
          | inl a ↦ inl a
          | inr na ↦ elim (or_cases ((A.core s).spoke vote) (due n t same (keep (A.core s) w' k u) u) h)
              [ inl a ↦ inl a | inr d ↦ inr (u, pick_true (not ((A.core s).spoke vote) && due n t same (keep (A.core s) w' k u) u) (some u) none (both (not ((A.core s).spoke vote)) _ na d)) ]
        ]

  heard_in : {j : ℕ} {s : M.State} → A.More j s → (i : ℕ) (ρ : M.Rec) (w : Word) (v : Val) → Board n i → A.Says w ρ v
      → T (A.done (M.next s (hand i ρ))) ⊎ ((u : Val) × T (named_by same (A.core (M.next s (hand i ρ))) w u i))
  heard_in {j} {s} g i ρ w v b y = elim (truth (A.done s)) [
    | inl d ↦ inl (A.done_stays g (hand i ρ) d)
    | inr nd ↦ inr (elim (truth ((A.core s).set w i)) [
      | inl h ↦ ((A.core s).val w i, heard_stays g (hand i ρ) w ((A.core s).val w i) i (both ((A.core s).set w i) _ h (A.same_refl ((A.core s).val w i))))
      | inr nh ↦ (
        v,
        subst (λ c. T (named_by same c w v i)) (sym (A.core_next g (hand i ρ) ∙ ap (moved n t same (A.core s)) (A.hear_in g i ρ w v b y nd nh)))
            (new_there n t same A.same_eq A.same_refl (A.core s) w i v),
      )
    ])
  ]

  overdue_start : (j : ℕ) → NotOverdue n t same (A.core (M.start j))
  overdue_start j v nv = (omega (arith, A.third, empty echo), omega (arith, empty vote))
    where
      empty : (w : Word) → count (named_by same (A.core (M.start j)) w v) n ≤ 0
      empty w = omega (
        arith,
        count_none n,
        count_le (named_by same (A.core (M.start j)) w v) (λ i. false) n
            (λ i b h. absurd (A.core_empty j w i (left ((A.core (M.start j)).set w i) _ h))),
      )

  pub echo_vote : EchoVote M n t Val reading
  echo_vote = record {
    good_start = λ j. (A.more_start j, overdue_start j);
    good_next = λ {j} {s} (g, h) x. (A.more_next g h x, subst (NotOverdue n t same) (sym (A.core_next g x)) (overdue_next n t same A.same_eq A.same_refl (A.core s) (A.move s x) h));
    heard_start = λ w j i v h. A.core_empty j w i (left ((A.core (M.start j)).set w i) _ h);
    spoke_start = λ w j. A.core_start j w;
    heard_from = λ {j} {s} (g, h) x w v i. heard_from g x w v i;
    heard_stays = λ {j} {s} (g, h) x w v i. heard_stays g x w v i;
    heard_in = λ {j} {s} (g, h) i ρ w v b y. heard_in g i ρ w v b y;
    done_stays = λ {j} {s} (g, h) x d. A.done_stays g x d;
    put_says = λ {j} {s} (g, h) x k ρ w v. A.put_says g x k ρ w v;
    says_put = λ {j} {s} (g, h) x w v e k b. A.says_put g x w v e k b;
    says_once = λ {j} {s} (g, h) x w v e. says_once g x w v e;
    spoke_stays = λ {j} {s} (g, h) x w. spoke_stays g x w;
    vote_why = λ {j} {s} (g, h) x v e. vote_why g x v e;
    voted_why = λ {j} {s} (g, h) x. voted_why g x;
    vote_due = λ {j} {s} (g, h) v nv. h v nv;
    done_voted = λ {j} {s} (g, h) d. A.done_voted g d;
  }
