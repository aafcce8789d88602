-- Document 01's "nothing is overdue", read for a notice board, is that no branch of figure 4 is enabled.
use mathlib.Core.Path.{◌≡◌, refl}
use Prim.Native.Nat.{ℕ}
use mathlib.Core.List.{List}
use mathlib.Core.Bool.{Bool, true, false, not, ◌&&◌, ◌||◌}
use native.Mathlib.Omega.{arith}
use borrow.Author.Tests.{not-true}
use Rattle.octets.specs.Bytes.{pick}
use Rattle.octets.proofs.Picks.{and_l, and_r}
use Rattle.table.specs.Table.{most_of, some_of}
use Rattle.table.specs.declared.Table.{Table}
use Rattle.table.proofs.Within.{Within, within}
use Rattle.state.specs.Sound.{reaches}
use Rattle.notice.specs.State.{notice_table, heard_in, notice_kept, notice_view, notice_view_of}
use Rattle.notice.specs.Sound.{notice_quiet, notice_sound}
use Rattle.notice.specs.declared.Heard.{Heard}
use Rattle.notice.proofs.Sounds.{notice_sounds}
use Rattle.figure.specs.Fires.{Still}
use Rattle.figure.proofs.Counts.{none_reaches, not_reached}
use Rattle.notice_figure.specs.Figure.{Branch, acquires, votes_by_echoes, votes_by_votes, delivers}
use Rattle.notice_figure.specs.Shown.{figure_in, figure_of}
use Rattle.notice_figure.proofs.Firing.{absent}

-- what the flags make of "nothing is overdue"
module _ (d v rv re rs : Bool) where
  abbrev Calm : Type 0
  Calm = (d || pick v (not rv) (not re && not rs)) ≡ true

  unvoted : d ≡ false → v ≡ false → Calm → (re ≡ false) × (rs ≡ false)
  unfolding pick
  unvoted e f h = let g : (not re && not rs) ≡ true = rw (e, f) at h in (not-true re (and_l (not re) (not rs) g), not-true rs (and_r (not re) (not rs) g))

  voted : d ≡ false → v ≡ true → Calm → rv ≡ false
  unfolding pick
  voted e f h = let g : not rv ≡ true = rw (e, f) at h in not-true rv g

  calm : (d ≡ false → v ≡ false → (re ≡ false) × (rs ≡ false)) → (d ≡ false → v ≡ true → rv ≡ false) → Calm
  unfolding pick
  calm unv vot = go d v refl refl
    where
      go : (c u : Bool) → d ≡ c → v ≡ u → (c || pick u (not rv) (not re && not rs)) ≡ true
      go true u e f = refl
      go false true e f = rw (vot e f)
      go false false e f = let (x, y) = unv e f in rw (x, y)

module _ (b : Table) (w : Within b) (m : Heard) (s : List ℕ) where
  abbrev most_votes : Bool
  most_votes = reaches b.n (most_of b) m.votes (notice_kept s 3)

  abbrev most_echoes : Bool
  most_echoes = reaches b.n (most_of b) m.echoes (notice_kept s 2)

  abbrev some_votes : Bool
  some_votes = reaches b.n (some_of b) m.votes (notice_kept s 3)

  abbrev Quiet : Type 0
  Quiet = Calm m.done m.voted most_votes most_echoes some_votes

  still_by : Quiet → Still (Branch b) (figure_in m s)
  still_by h es y (acquires v d a e) = absent (figure_in m s).sent v refl e
  still_by h es y (votes_by_echoes v d u k) =
      not_reached b (most_of b) m.echoes (notice_kept s 2) (omega (arith, w.third))
      (unvoted m.done m.voted most_votes most_echoes some_votes d u h).0 v k
  still_by h es y (votes_by_votes v d u k) =
      not_reached b (some_of b) m.votes (notice_kept s 3) (omega arith) (unvoted m.done m.voted most_votes most_echoes some_votes d u h).1 v k
  still_by h es y (delivers v d u k) =
      not_reached b (most_of b) m.votes (notice_kept s 3) (omega (arith, w.third)) (voted m.done m.voted most_votes most_echoes some_votes d u h) v k

  quiet_by : Still (Branch b) (figure_in m s) → Quiet
  quiet_by still =
      calm m.done m.voted most_votes most_echoes some_votes
      (λ d u. (
        none_reaches b (most_of b) m.echoes (notice_kept s 2) (λ v h. still _ _ (votes_by_echoes v d u h)),
        none_reaches b (some_of b) m.votes (notice_kept s 3) (λ v h. still _ _ (votes_by_votes v d u h)),
      ))
      (λ d u. none_reaches b (most_of b) m.votes (notice_kept s 3) (λ v h. still _ _ (delivers v d u h)))

  pub still_of : notice_quiet (notice_view_of b m s) ≡ true → Still (Branch b) (figure_in m s)
  unfolding notice_quiet
  still_of h = still_by h

  -- and back: where no branch is enabled, nothing is overdue
  pub nothing_enabled : Still (Branch b) (figure_in m s) → notice_quiet (notice_view_of b m s) ≡ true
  unfolding notice_quiet
  nothing_enabled still = quiet_by still

-- in a sound state "nothing is overdue"
pub nothing_overdue : (s : List ℕ) → notice_sound (notice_view s) ≡ true → Still (Branch (notice_table s)) (figure_of s)
nothing_overdue s h =
    let f = notice_sounds (notice_view s) h in
    still_of (notice_table s) (within (notice_table s) f.lim) (heard_in s) s f.calm
