-- Only on a line of one board does a step both put out a record and deliver.
use mathlib.Core.Path.{◌≡◌, refl, sym, subst}
use Prim.Native.Nat.{ℕ, ◌-◌, ◌≤◌}
use mathlib.Core.List.{List, []}
use mathlib.Core.Bool.{Bool, true, false, not, ◌&&◌, ◌||◌}
use mathlib.Core.Option.{some}
use mathlib.Core.Logic.{◌⊎◌, inl, inr, ⊎_elim}
use native.Mathlib.Omega.{arith}
use borrow.Author.Tests.{not-true}
use lib.Count.{ones}
use lib.Dec.{eqb}
use lib.ListN.{length}
use Rattle.octets.specs.Bytes.{pick}
use Rattle.octets.proofs.Picks.{and_l, and_r}
use Rattle.octets.proofs.Walk.{lt_or_le}
use Rattle.table.specs.Table.{most_of, some_of}
use Rattle.table.specs.declared.Table.{Table}
use Rattle.table.proofs.Within.{Within, within}
use Rattle.board.specs.Planned.{Plan, Refuse, Take}
use Rattle.board_step.specs.Step.{Outcome, delivered}
use Rattle.notice.specs.Form.{notice_record, notice_in}
use Rattle.notice.specs.State.{notice_table, heard_in, notice_kept, hearing, notice_due, notice_won}
use Rattle.notice.specs.declared.Heard.{Heard}
use Rattle.notice.proofs.Kept.{Word}
use Rattle.notice_step.specs.Planned.{notice_plan}
use Rattle.notice_step.specs.Step.{kept_notice, notice_said, notice_ends, notice_taken, notice_by_plan, notice_step_of}
use Rattle.notice_step.proofs.Taken.{NoticeTaken, notice_taken_lem, taken_sounds, taken_sort}
use Rattle.figure.specs.Fires.{Still}
use Rattle.figure.specs.Received.{is_for}
use Rattle.figure.proofs.Counts.{parties_one}
use Rattle.notice_figure.specs.Figure.{Message, echo, vote, Figure, receive, voting, Branch, votes_by_votes}
use Rattle.notice_figure.specs.Shown.{figure_in, figure_of}
use Rattle.notice_figure.proofs.Overdue.{nothing_overdue}
use Rattle.notice_figure.proofs.Received.{echo_received, vote_received}
use Rattle.notice_figure.proofs.Words.{by_votes}

-- ---- in figure 4: a party that has not voted, and for which no branch is enabled, receives a message

module _ (b : Table) (i : ℕ) (x : Figure) (w : Within b) (still : Still (Branch b) x) (going : x.done ≡ false) (unvoted : x.voted ≡ false) (v : List ℕ) where
  -- an echo finds the n - t votes there, and they would have brought the vote
  echo_alone : (m : List ℕ) → most_of b ≤ ones (voting b (receive b i (echo m) x) v) → b.n ≡ 1
  unfolding receive
  echo_alone m h = absurd (still _ _ (votes_by_votes v going unvoted (omega (arith, w.third))))

  -- before a vote there were at most t, so n - t is at most t + 1
  vote_alone : (m : List ℕ) → most_of b ≤ ones (voting b (receive b i (vote m) x) v) → b.n ≡ 1
  unfolding receive
  vote_alone m h =
      ⊎_elim (λ l. omega (arith, w.third, parties_one b (is_for v) i m x.vote_of)) (λ l. absurd (still _ _ (votes_by_votes v going unvoted l)))
      (lt_or_le (ones (voting b x v)) (some_of b))

-- ---- in a step

-- N: the line has one board
Alone : Type 0 → Outcome → Type 0
Alone N z = (z.answer.record_length ≡ 0) ⊎ ((z.answer.delivery ≡ 0) ⊎ N)

-- a vote if a, a delivery if c
one_of : {N : Type 0} (a c : Bool) (v d : List ℕ) → (a ≡ true → c ≡ true → N)
    → (length (pick a (notice_record 6 v) []) ≡ 0) ⊎ (((delivered c (some v) d).kind ≡ 0) ⊎ N)
unfolding delivered pick
one_of true true v d h = inr (inr (h refl refl))
one_of true false v d h = inr (inl refl)
one_of false c v d h = inl refl

module _ {s : List ℕ} {from : ℕ} {r o d : List ℕ} {k f : ℕ} (t : NoticeTaken s from r o d k f) where
  abbrev b : Table
  b = notice_table s

  abbrev v : List ℕ
  v = notice_in f r

  abbrev m1 : Heard
  m1 = hearing k (from - 1) (heard_in s)

  abbrev s1 : List ℕ
  s1 = kept_notice k (from - 1) f r s

  going : m1.done ≡ false
  unfolding hearing
  going = t.allowed.not_done

  unvoted : m1.voted ≡ false → (heard_in s).voted ≡ false
  unfolding hearing
  unvoted e = e

  -- a vote and a delivery at once have n - t votes for the notice
  enough : notice_won b m1 (notice_kept s1) v ≡ true → most_of b ≤ ones (voting b (figure_in m1 s1) v)
  unfolding notice_won
  enough e = by_votes b m1 s1 v going (most_of b) e

  word_alone : eqb k 1 ≡ false → (m : Message) → figure_in m1 s1 ≡ receive b from m (figure_of s)
      → ((heard_in s).voted ≡ false → most_of b ≤ ones (voting b (receive b from m (figure_of s)) v) → b.n ≡ 1) → Alone (b.n ≡ 1) (notice_taken k f s from r o d)
  unfolding Alone notice_taken notice_said notice_ends pick
  word_alone word m received alone =
      let due = notice_due b m1 (notice_kept s1) v in
      let won = notice_won b m1 (notice_kept s1) v in
      rw word
      (one_of (not m1.voted && due) ((m1.voted || due) && won) v d
      (λ a c. alone (unvoted (not-true m1.voted (and_l (not m1.voted) due a)))
      (subst (λ (x : Figure). most_of b ≤ ones (voting b x v)) received (enough (and_r (m1.voted || due) won c)))))

  still : Still (Branch b) (figure_of s)
  still = nothing_overdue s t.sound

  limited : Within b
  limited = within b (taken_sounds t).lim

echo_case : {s : List ℕ} {from : ℕ} {r o d : List ℕ} {f : ℕ} → NoticeTaken s from r o d 2 f → Alone ((notice_table s).n ≡ 1) (notice_taken 2 f s from r o d)
echo_case {s} {from} {r} {o} {d} {f} t =
    word_alone t refl (echo (notice_in f r)) (echo_received t)
    (λ u. echo_alone (notice_table s) from (figure_of s) (limited t) (still t) t.allowed.not_done u (notice_in f r) (notice_in f r))

vote_case : {s : List ℕ} {from : ℕ} {r o d : List ℕ} {f : ℕ} → NoticeTaken s from r o d 3 f → Alone ((notice_table s).n ≡ 1) (notice_taken 3 f s from r o d)
vote_case {s} {from} {r} {o} {d} {f} t =
    word_alone t refl (vote (notice_in f r)) (vote_received t)
    (λ u. vote_alone (notice_table s) from (figure_of s) (limited t) (still t) t.allowed.not_done u (notice_in f r) (notice_in f r))

-- a send delivers nothing
send_case : (N : Type 0) (s : List ℕ) (from : ℕ) (r o d : List ℕ) (f : ℕ) → Alone N (notice_taken 1 f s from r o d)
unfolding Alone notice_taken notice_ends delivered pick
send_case N s from r o d f = inr (inl refl)

by_sort : {s : List ℕ} {from : ℕ} {r o d : List ℕ} {f : ℕ} (k : ℕ) → (k ≡ 1) ⊎ Word k → NoticeTaken s from r o d k f
    → Alone ((notice_table s).n ≡ 1) (notice_taken k f s from r o d)
by_sort {s} {from} {r} {o} {d} {f} k (inl e) t = rw e (send_case ((notice_table s).n ≡ 1) s from r o d f)
by_sort {s} {from} {r} {o} {d} {f} k (inr (inl e)) t =
    subst (λ (j : ℕ). (NoticeTaken s from r o d j f → Alone ((notice_table s).n ≡ 1) (notice_taken j f s from r o d))) (sym e) echo_case t
by_sort {s} {from} {r} {o} {d} {f} k (inr (inr e)) t =
    subst (λ (j : ℕ). (NoticeTaken s from r o d j f → Alone ((notice_table s).n ≡ 1) (notice_taken j f s from r o d))) (sym e) vote_case t

module _ (s : List ℕ) (from : ℕ) (r o d : List ℕ) where
  by_plan_lem : (x : Plan) → notice_plan s from r o d ≡ x → Alone ((notice_table s).n ≡ 1) (notice_by_plan x s from r o d)
  unfolding notice_by_plan Alone
  by_plan_lem (Refuse q a) e = inl refl
  by_plan_lem (Take k p f) e = let t = notice_taken_lem s from r o d k p f e in by_sort k (taken_sort t) t

  pub both_alone : ((notice_step_of s from r o d).answer.record_length ≡ 0) ⊎ (((notice_step_of s from r o d).answer.delivery ≡ 0) ⊎ ((notice_table s).n ≡ 1))
  unfolding notice_step_of Alone
  both_alone = by_plan_lem (notice_plan s from r o d) refl
