-- No step both puts out a record and delivers.
use mathlib.Core.Path.{◌≡◌, refl, subst}
use Prim.Native.Nat.{ℕ, zero, suc, ◌-◌, ◌≤◌}
use mathlib.Core.List.{List}
use mathlib.Core.Bool.{Bool, true, false, not, ◌&&◌}
use mathlib.Core.Option.{Option}
use mathlib.Core.Logic.{◌⊎◌, inl, inr, ⊎_elim}
use native.Mathlib.Omega.{arith}
use borrow.Author.Tests.{not-true}
use lib.Count.{ones}
use lib.ListN.{length}
use Rattle.octets.specs.Bytes.{pick}
use Rattle.octets.proofs.Picks.{and_l}
use Rattle.octets.proofs.Walk.{lt_or_le}
use Rattle.table.specs.Table.{k_of, s_max, most_of, some_of}
use Rattle.table.specs.declared.Table.{Table}
use Rattle.table.proofs.Within.{Within, within}
use Rattle.record.proofs.Facts.{whole}
use Rattle.record.proofs.PartLaws.{kind_few}
use Rattle.state.specs.State.{view, table_of, own_of, marks_of}
use Rattle.state.specs.declared.Marks.{Marks}
use Rattle.state.proofs.Facts.{sounds}
use Rattle.board.specs.Planned.{Plan, Refuse, Take, plan_of}
use Rattle.board.specs.Stepped.{record_root, marked, kept, voted_now, ends_now}
use Rattle.board.proofs.Taken.{Taken, taken, not_done}
use Rattle.board.proofs.StepSound.{settled_sounds}
use Rattle.board_step.specs.Step.{Outcome, good, put_out, result_in, delivered, said_by, taken_of, by_plan, step_of}
use Rattle.figure.specs.Fires.{Still}
use Rattle.figure.proofs.Counts.{clash}
use Rattle.board_figure.specs.Figure.{Piece, echo, vote, Figure, receive, usables, voting, At, Branch, votes_by_echoes, votes_by_votes}
use Rattle.board_figure.specs.Shown.{figure_of, piece_of, message_of}
use Rattle.board_figure.proofs.Counts.{vote_one, usables_fewer}
use Rattle.board_figure.proofs.Overdue.{nothing_overdue}
use Rattle.board_figure.proofs.Words.{ends_counts, output_voted}
use Rattle.board_figure.proofs.StepIsFigure.{echo_shown, vote_shown}

-- ---- in figure 5: a party that has not voted, and for which no branch is enabled, receives a message

module _ (b : Table) (own i : ℕ) (x : Figure) (w : Within b) (still : Still (Branch b own) x) (at : At false x) (unvoted : x.voted ≡ false) (r : List ℕ) where
  -- an echo finds the n - t votes there, and they would have brought the vote
  echo_ends_not : (p : Piece) → most_of b ≤ ones (voting b (receive b i (echo p) x) r) → ⊥
  unfolding receive
  echo_ends_not p h = still _ _ (votes_by_votes r at unvoted (omega (arith, w.third)))

  -- before a vote there were at most t, so n - t is t + 1: n is 1, and the usable echo would have brought the vote
  vote_ends_not : (q : List ℕ) → most_of b ≤ ones (voting b (receive b i (vote q) x) r) → k_of b ≤ ones (usables b (receive b i (vote q) x) r) → ⊥
  unfolding receive
  vote_ends_not q h k =
      ⊎_elim (λ l. still _ _ (votes_by_echoes r at unvoted (omega (arith, w.third, vote_one b i x q r, usables_fewer b x r))))
      (λ l. still _ _ (votes_by_votes r at unvoted l)) (lt_or_le (ones (voting b x r)) (some_of b))

-- ---- in a step

Either : Outcome → Type 0
Either z = (z.answer.record_length ≡ 0) ⊎ (z.answer.delivery ≡ 0)

one_of : (a c : Bool) (p f : ℕ) (r : List ℕ) (result : Option (List ℕ)) (d : List ℕ) → (a ≡ true → c ≡ true → ⊥)
    → (length (put_out false a p f r) ≡ 0) ⊎ ((delivered c result d).kind ≡ 0)
unfolding put_out delivered pick
one_of true true p f r result d h = absurd (h refl refl)
one_of true false p f r result d h = inr refl
one_of false c p f r result d h = inl refl

module _ (s : List ℕ) (from : ℕ) (r o d : List ℕ) (p f : ℕ) where
  abbrev b : Table
  b = table_of s

  abbrev own : ℕ
  own = own_of s

  abbrev root : List ℕ
  root = record_root r

  -- marks and bytes once a record of kind k is kept
  abbrev m : ℕ → Marks
  m k = marked k (from - 1) (good k p f from r s) (marks_of s)

  abbrev s1 : ℕ → List ℕ
  s1 k = kept (s_max b) k (from - 1) p f r s

  unvoted : (v n : Bool) → (not v && n) ≡ true → v ≡ false
  unvoted v n e = not-true v (and_l (not v) n e)

  module _ (k : ℕ) (t : Taken s from r o d k p f) (fresh : (marks_of s).voted ≡ false) where
    w : Within b
    w = within b (sounds (view s) t.sound).lim

    still : Still (Branch b own) (figure_of s)
    still = nothing_overdue s t.sound

    at_loop : At false (figure_of s)
    at_loop = record { going = not_done t; place = go (marks_of s).output refl }
      where
        go : (c : Bool) → (marks_of s).output ≡ c → c ≡ false
        go true e = clash (marks_of s).voted (output_voted (marks_of s) (sounds (view s) t.sound).flags e) fresh
        go false e = refl

  echo_not_both : Taken s from r o d 2 p f → (marks_of s).voted ≡ false → ends_now b true (m 2) (s1 2) root ≡ true → ⊥
  unfolding message_of marked pick
  echo_not_both t u e =
      let (h, k) = ends_counts b own (m 2) (s1 2) root (settled_sounds s from r o d (good 2 p f from r s) 2 p f t) (not_done t)
      (output_voted (marks_of s) (sounds (view s) t.sound).flags) e in
      echo_ends_not b own from (figure_of s) (w 2 t u) (still 2 t u) (at_loop 2 t u) u root (piece_of p f r)
      (subst (λ (x : Figure). most_of b ≤ ones (voting b x root)) (echo_shown s from r o d p f t) h)

  vote_not_both : Taken s from r o d 3 p f → (marks_of s).voted ≡ false → ends_now b true (m 3) (s1 3) root ≡ true → ⊥
  unfolding message_of marked pick
  vote_not_both t u e =
      let (h, k) = ends_counts b own (m 3) (s1 3) root (settled_sounds s from r o d (good 3 p f from r s) 3 p f t) (not_done t)
      (output_voted (marks_of s) (sounds (view s) t.sound).flags) e in
      vote_ends_not b own from (figure_of s) (w 3 t u) (still 3 t u) (at_loop 3 t u) u root root
      (subst (λ (x : Figure). most_of b ≤ ones (voting b x root)) (vote_shown s from r o d p f t) h)
      (subst (λ (x : Figure). k_of b ≤ ones (usables b x root)) (vote_shown s from r o d p f t) k)

  by_kind : (k : ℕ) → 1 ≤ k → k ≤ 3 → Taken s from r o d k p f → Either (taken_of k p f s from r o d)
  unfolding Either taken_of ends_now delivered marked pick said_by
  by_kind zero l h t = absurd (omega arith)
  by_kind (suc zero) l h t = inr refl
  by_kind (suc (suc zero)) l h t =
      one_of (not (marks_of s).voted && voted_now b true (m 2) (s1 2) root) (ends_now b true (m 2) (s1 2) root) p f r (result_in b (m 2) (s1 2) root) d
      (λ a e. echo_not_both t (unvoted (marks_of s).voted (voted_now b true (m 2) (s1 2) root) a) e)
  by_kind (suc (suc (suc zero))) l h t =
      one_of (not (marks_of s).voted && voted_now b true (m 3) (s1 3) root) (ends_now b true (m 3) (s1 3) root) p f r (result_in b (m 3) (s1 3) root) d
      (λ a e. vote_not_both t (unvoted (marks_of s).voted (voted_now b true (m 3) (s1 3) root) a) e)
  by_kind (suc (suc (suc (suc k)))) l h t = absurd (omega arith)

module _ (s : List ℕ) (from : ℕ) (r o d : List ℕ) where
  by_plan_lem : (x : Plan) → plan_of s from r o d ≡ x → Either (by_plan x s from r o d)
  unfolding by_plan Either
  by_plan_lem (Refuse q a) e = inl refl
  by_plan_lem (Take k p f) e =
      let t = taken s from r o d k p f e in
      let (one, few) = kind_few k (whole r k p f t.form).kind_ok in
      by_kind s from r o d p f k one few t

  pub never_both : ((step_of s from r o d).answer.record_length ≡ 0) ⊎ ((step_of s from r o d).answer.delivery ≡ 0)
  unfolding step_of Either
  never_both = by_plan_lem (plan_of s from r o d) refl
