-- Document 01's "nothing is overdue" is that no branch of figure 5 is enabled.
use mathlib.Core.Path.{◌≡◌, refl, ap}
use Prim.Native.Nat.{ℕ, ◌≤◌, ◌<◌}
use mathlib.Core.List.{List}
use mathlib.Core.Bool.{Bool, true, false, not, ◌&&◌, ◌||◌}
use native.Mathlib.Omega.{arith}
use borrow.Author.Tests.{leb-true, ltb-true, le-leb, lt-ltb, not-true}
use lib.Count.{ones}
use lib.Dec.{leb, ltb}
use Rattle.octets.specs.Bytes.{pick, part}
use Rattle.octets.specs.Sets.{has}
use Rattle.octets.proofs.Picks.{and_l, and_r, never}
use Rattle.octets.proofs.Walk.{lt_or_le}
use mathlib.Core.Logic.{⊎_elim}
use Rattle.table.specs.Table.{limits, k_of, most_of, some_of}
use Rattle.table.specs.declared.Table.{Table}
use Rattle.table.proofs.Within.{Within, within}
use Rattle.code.specs.Code.{All, Byte}
use Rattle.state.specs.State.{State, view, view_of, table_of, own_of, marks_of, echo_at, vote_at}
use Rattle.state.specs.Sound.{naming, reaches, waits_at, waits, quiet, sound, flags_ok}
use Rattle.state.specs.declared.Marks.{Marks}
use Rattle.octets.proofs.Members.{some_at, some_find}
use Rattle.state.proofs.Facts.{Sounds, sounds}
use Rattle.state.proofs.Tallies.{naming_find}
use Rattle.board_step.specs.Step.{usable_for, result_in}
use Rattle.board_figure.specs.Figure.{Figure, echoing, usables, voting, At, Branch, acquires, votes_by_echoes, votes_by_votes, opens, delivers}
use Rattle.board_figure.specs.Shown.{figure_in, figure_of}
use Rattle.figure.specs.Fires.{Still}
use Rattle.figure.proofs.Counts.{clash, fails, reaches_by, reaches_of}
use Rattle.board_figure.proofs.Counts.{one_root}
use Rattle.board_figure.proofs.Results.{output_seen}
use Rattle.board_figure.proofs.Seen.{Heard, heard, echoing_seen, usables_seen, voting_seen}

-- what the flags make of "nothing is overdue"
module _ (o d v w rv re rs : Bool) where
  abbrev Calm : Type 0
  Calm = pick o (d || w) (pick v (not rv) (not re && not rs)) ≡ true

  unvoted : o ≡ false → v ≡ false → Calm → (re ≡ false) × (rs ≡ false)
  unfolding pick
  unvoted e f h = let g : (not re && not rs) ≡ true = rw (e, f) at h in (not-true re (and_l (not re) (not rs) g), not-true rs (and_r (not re) (not rs) g))

  voted : o ≡ false → v ≡ true → Calm → rv ≡ false
  unfolding pick
  voted e f h = let g : not rv ≡ true = rw (e, f) at h in not-true rv g

  waiting : o ≡ true → d ≡ false → Calm → w ≡ true
  unfolding pick
  waiting e f h = rw (e, f) at h

module _ (b : Table) (m : Marks) (s : List ℕ) where
  abbrev echo_root : ℕ → List ℕ
  echo_root j = part (echo_at j) 32 s

  abbrev vote_root : ℕ → List ℕ
  vote_root j = part (vote_at j) 32 s

  abbrev x : Figure
  x = figure_in b m s

  abbrev v : State
  v = view_of b m s

  overdue_echoes : Within b → (r : List ℕ) → most_of b ≤ ones (echoing b x r) → reaches b.n (most_of b) m.echoes echo_root ≡ true
  overdue_echoes w r h = reaches_by b.n (most_of b) m.echoes echo_root r (omega (arith, w.third)) (rw (echoing_seen b m s r) at h)

  overdue_votes : (q : ℕ) (r : List ℕ) → 1 ≤ q → q ≤ ones (voting b x r) → reaches b.n q m.votes vote_root ≡ true
  overdue_votes q r one h = reaches_by b.n q m.votes vote_root r one (rw (voting_seen b m s r) at h)

  -- the root that waits
  waits_on : waits v ≡ true → (r : List ℕ) × (most_of b ≤ ones (naming b.n m.votes vote_root r)) × (ones (naming b.n m.usable echo_root r) < k_of b)
  unfolding waits waits_at
  waits_on h =
      let (j, l, t) = some_find (waits_at v) 0 b.n h in
      let A = leb (most_of b) (ones (naming b.n m.votes vote_root (vote_root j))) in
      let B = ltb (ones (naming b.n m.usable echo_root (vote_root j))) (k_of b) in
      let rest : (A && B) ≡ true = and_r (has m.votes j) (A && B) t in
      (vote_root j, leb-true (most_of b) _ (and_l A B rest), ltb-true _ (k_of b) (and_r A B rest))

  waits_for : Within b → (r : List ℕ) → most_of b ≤ ones (naming b.n m.votes vote_root r) → ones (naming b.n m.usable echo_root r) < k_of b → waits v ≡ true
  unfolding waits waits_at
  waits_for w r h k =
      let (j, l, t, e) = naming_find b.n m.votes vote_root r (omega (arith, w.third)) in
      some_at (waits_at v) 0 b.n j (omega arith) (omega arith)
      (rw (t, e, le-leb (most_of b) (ones (naming b.n m.votes vote_root r)) h, lt-ltb (ones (naming b.n m.usable echo_root r)) (k_of b) k))

  -- the root that waits is the only one with n - t votes, and has too few usable echoes
  too_few : Within b → Heard b m → waits v ≡ true → (r : List ℕ) → most_of b ≤ ones (voting b x r) → k_of b ≤ ones (usables b x r) → ⊥
  too_few w g h r p k =
      let (q, most, few) = waits_on h in
      let e : r ≡ q = one_root b w x r q p (rw (voting_seen b m s q) most) in
      let k' : k_of b ≤ ones (naming b.n m.usable echo_root q) = rw (usables_seen b m s g r, e) at k in
      omega arith

  abbrev most_votes : Bool
  most_votes = reaches b.n (most_of b) m.votes vote_root

  abbrev most_echoes : Bool
  most_echoes = reaches b.n (most_of b) m.echoes echo_root

  abbrev some_votes : Bool
  some_votes = reaches b.n (some_of b) m.votes vote_root

  abbrev Quiet : Type 0
  Quiet = Calm m.output m.done m.voted (waits v) most_votes most_echoes some_votes

  when_unvoted : Quiet → m.output ≡ false → m.voted ≡ false → (most_echoes ≡ false) × (some_votes ≡ false)
  when_unvoted h o u = unvoted m.output m.done m.voted (waits v) most_votes most_echoes some_votes o u h

  when_voted : Quiet → m.output ≡ false → m.voted ≡ true → most_votes ≡ false
  when_voted h o u = voted m.output m.done m.voted (waits v) most_votes most_echoes some_votes o u h

  when_open : Quiet → m.output ≡ true → m.done ≡ false → waits v ≡ true
  when_open h o d = waiting m.output m.done m.voted (waits v) most_votes most_echoes some_votes o d h

  -- a quiet state's figure enables no branch
  still_by : Within b → Heard b m → (own : ℕ) → Quiet → Still (Branch b own) x
  still_by w g own h es y (acquires p a q e) = absurd (let z : ◌≡◌ {A = ℕ} 0 1 = cc in omega arith)
  still_by w g own h es y (votes_by_echoes r a u k) = clash most_echoes (overdue_echoes w r k) (when_unvoted h a.place u).0
  still_by w g own h es y (votes_by_votes r a u k) = clash some_votes (overdue_votes (some_of b) r (omega arith) k) (when_unvoted h a.place u).1
  still_by w g own h es y (opens r a u k) = clash most_votes (overdue_votes (most_of b) r (omega (arith, w.third)) k) (when_voted h a.place u)
  still_by w g own h es y (delivers r o a k l e) = too_few w g (when_open h a.place a.going) r k l

  pub still_of : Sounds v → (own : ℕ) → Still (Branch b own) x
  unfolding quiet
  still_of f own = still_by (within b f.lim) (heard b m s f) own f.calm

  waiting_root : Sounds v → m.output ≡ true → m.done ≡ false → (r : List ℕ) × (most_of b ≤ ones (voting b (figure_in b m s) r))
  unfolding quiet
  waiting_root f o d = let (r, most, few) = waits_on (when_open f.calm o d) in (r, rw (voting_seen b m s r) most)

  -- ---- and back: where no branch is enabled, nothing is overdue

  module _ (lim : limits b ≡ true) (bytes : All Byte s) (g : Heard b m) (own : ℕ) (still : Still (Branch b own) x) where
    no_echoes : At false x → m.voted ≡ false → most_echoes ≡ false
    no_echoes a u =
        fails most_echoes
        (λ e. let (r, h) = reaches_of b.n (most_of b) m.echoes echo_root e in still _ _ (votes_by_echoes r a u (rw (echoing_seen b m s r) h)))

    no_votes : At false x → m.voted ≡ false → some_votes ≡ false
    no_votes a u =
        fails some_votes
        (λ e. let (r, h) = reaches_of b.n (some_of b) m.votes vote_root e in still _ _ (votes_by_votes r a u (rw (voting_seen b m s r) h)))

    no_opening : At false x → m.voted ≡ true → most_votes ≡ false
    no_opening a u =
        fails most_votes
        (λ e. let (r, h) = reaches_of b.n (most_of b) m.votes vote_root e in still _ _ (opens r a u (rw (voting_seen b m s r) h)))

    enough : (r : List ℕ) → k_of b ≤ ones (naming b.n m.usable echo_root r) → k_of b ≤ ones (usable_for b m s r)
    unfolding usable_for
    enough r l = l

    still_waits : At true x → (r : List ℕ) → most_of b ≤ ones (voting b x r) → waits v ≡ true
    still_waits a r h =
        let u = usables_seen b m s g r in
        ⊎_elim (λ l. waits_for (within b lim) r (rw (voting_seen b m s r) at h) (rw u at l))
        (λ l. absurd (still _ _ (delivers r (result_in b m s r) a h l (output_seen b m s lim g bytes r (enough r (rw u at l))))))
        (lt_or_le (ones (usables b x r)) (k_of b))

    -- "in the output stage and not done, one root has n-t votes" is said beside
    abbrev Opened : Type 0
    Opened = m.output ≡ true → m.done ≡ false → (r : List ℕ) × (most_of b ≤ ones (voting b x r))

    by_flags : (o d u : Bool) → m.output ≡ o → m.done ≡ d → m.voted ≡ u → ((not o || u) && (not d || o)) ≡ true → Opened → Calm o d u (waits v) most_votes most_echoes some_votes
    unfolding pick
    by_flags true true u eo ed eu f k = refl
    by_flags true false u eo ed eu f k = let (r, h) = k eo ed in still_waits (record { going = ed; place = eo }) r h
    by_flags false true u eo ed eu f k = never f
    by_flags false false true eo ed eu f k = ap not (no_opening (record { going = ed; place = eo }) eu)
    by_flags false false false eo ed eu f k =
        let a : At false x = record { going = ed; place = eo } in
        rw (no_echoes a eu, no_votes a eu)

    calm_if_still : flags_ok m ≡ true → Opened → quiet v ≡ true
    unfolding quiet flags_ok
    calm_if_still f k = by_flags m.output m.done m.voted refl refl refl f k

-- document 01, "A board's step": in a sound state "nothing is overdue"
pub nothing_overdue : (s : List ℕ) → sound (view s) ≡ true → Still (Branch (table_of s) (own_of s)) (figure_of s)
nothing_overdue s h = still_of (table_of s) (marks_of s) s (sounds (view s) h) (own_of s)

-- and "in the output stage and not done, one root has n-t votes"
pub root_waits : (s : List ℕ) → sound (view s) ≡ true → (marks_of s).output ≡ true → (marks_of s).done ≡ false
    → (r : List ℕ) × (most_of (table_of s) ≤ ones (voting (table_of s) (figure_of s) r))
root_waits s h = waiting_root (table_of s) (marks_of s) s (sounds (view s) h)

-- and back: these two, with the other conditions of soundness, say that nothing is overdue
pub nothing_enabled : (s : List ℕ) → All Byte s → limits (table_of s) ≡ true → flags_ok (marks_of s) ≡ true → Heard (table_of s) (marks_of s)
    → ((marks_of s).output ≡ true → (marks_of s).done ≡ false → (r : List ℕ) × (most_of (table_of s) ≤ ones (voting (table_of s) (figure_of s) r)))
    → Still (Branch (table_of s) (own_of s)) (figure_of s) → quiet (view s) ≡ true
nothing_enabled s bytes lim flags g opened still = calm_if_still (table_of s) (marks_of s) s lim bytes g (own_of s) still flags opened
