-- One notice board from its start, any records handed over one after the other, accepted or refused, is a run of figure 4.
use mathlib.Core.Path.{◌≡◌, refl, subst}
use Prim.Native.Nat.{ℕ, ◌+◌, ◌≤◌}
use mathlib.Core.List.{List, [], ◌∷◌}
use mathlib.Core.Bool.{true, false}
use mathlib.Core.Option.{none}
use native.Mathlib.Omega.{arith}
use lib.ListN.{length}
use Rattle.octets.proofs.Laws.{length_put}
use Rattle.table.specs.declared.Table.{Table}
use Rattle.board.specs.Planned.{Plan, Refuse, Take}
use Rattle.board_step.specs.Step.{refused}
use Rattle.code.specs.Code.{All}
use Rattle.notice.specs.Form.{sort_of}
use Rattle.notice.specs.State.{notice_state_bytes, notice_table, notice_kept, notice_view}
use Rattle.notice.specs.Sound.{notice_sound}
use Rattle.notice_step.specs.Planned.{notice_plan}
use Rattle.notice_step.specs.Started.{notice_fresh, notice_start_of}
use Rattle.notice_step.specs.Step.{notice_by_plan, notice_step_of}
use Rattle.notice_step.proofs.Taken.{notice_taken_lem}
use Rattle.notice_step.proofs.Starts.{unheard, without_longest, notice_accepted, notice_start_sound, notice_start_says}
use Rattle.notice_step.proofs.Outcomes.{notice_stays}
use Rattle.figure.specs.Fires.{Still}
use Rattle.figure.specs.Run.{Handed, Run}
use Rattle.figure.proofs.History.{Made, took, runs}
use Rattle.figure.proofs.Refusals.{Why, refused_made}
use Rattle.figure.proofs.Noting.{shown_none}
use Rattle.notice_figure.specs.Figure.{Figure, begins, Branch}
use Rattle.notice_figure.specs.Shown.{figure_in, figure_of, message_of}
use Rattle.notice_figure.specs.History.{read_as, Means, notice_party}
use Rattle.notice_figure.proofs.Alike.{Alike, alike}
use Rattle.notice_figure.proofs.Overdue.{nothing_overdue}
use Rattle.notice_figure.proofs.Refusals.{why_refused}
use Rattle.notice_figure.proofs.StepIsFigure.{notice_step_is_figure}

-- ---- its start

nothing_heard : (s : List ℕ) → figure_in unheard s ≡ begins
nothing_heard s = λ j. record {
  acquired = false;
  voted = false;
  done = false;
  sent = none;
  echo_of = λ k. shown_none (notice_kept s 2) k j;
  vote_of = λ k. shown_none (notice_kept s 3) k j;
}

-- "acquired ← false, voted ← false, done ← false", and nothing is received
pub notice_begins : (b : Table) (own : ℕ) (s : List ℕ) → (notice_start_of b own s).number ≡ 0 → figure_of (notice_start_of b own s).state ≡ begins
notice_begins b own s h =
    let (table, number, heard) = notice_start_says b own s h in
    rw heard (nothing_heard (notice_start_of b own s).state)

-- ---- its states: sound, large enough, with one table

record Fit (b : Table) (s : List ℕ) : Type 0 where
  sound : notice_sound (notice_view s) ≡ true
  long : notice_state_bytes ≤ length s
  table : notice_table s ≡ b

abbrev Fine : Handed → Type 0
Fine h = Unit {0}

fine : (hs : List Handed) → All Fine hs
fine [] = tt
fine (h ∷ hs) = (tt, fine hs)

module _ (b : Table) where
  still : (s : List ℕ) → Fit b s → Still (Branch b) (figure_of s)
  still s f = subst (λ (c : Table). Still (Branch c) (figure_of s)) f.table (nothing_overdue s f.sound)

  stays : (s : List ℕ) → Fit b s → (h : Handed) → Fine h → Fit b (notice_step_of s h.from h.bytes h.out h.delivery).state
  stays s f h g =
      let k = notice_stays s h.from h.bytes h.out h.delivery f.sound in
      record { sound = k.still_sound; long = rw k.size f.long; table = rw k.table f.table }

-- what the board makes of one record
module _ (s : List ℕ) (so : notice_sound (notice_view s) ≡ true) (long : notice_state_bytes ≤ length s) (h : Handed) where
  abbrev b : Table
  b = notice_table s

  abbrev Makes : Type 0
  Makes = Made (notice_party b) figure_of Alike s h

  refuses : (q a : ℕ) → notice_plan s h.from h.bytes h.out h.delivery ≡ Refuse q a
      → notice_step_of s h.from h.bytes h.out h.delivery ≡ refused q a s h.out h.delivery
  unfolding notice_step_of notice_by_plan
  refuses q a e = rw e

  means : (k p f : ℕ) → notice_plan s h.from h.bytes h.out h.delivery ≡ Take k p f → Means b h (message_of k f h.bytes)
  unfolding read_as
  means k p f e =
      let t = notice_taken_lem s h.from h.bytes h.out h.delivery k p f e in
      let sort : sort_of (3 + k) ≡ k = omega arith in
      record { party = t.board; reads = rw (t.form, sort) }

  by_plan_lem : (z : Plan) → notice_plan s h.from h.bytes h.out h.delivery ≡ z → Makes
  by_plan_lem (Take k p f) e = took (message_of k f h.bytes) (means k p f e) (notice_step_is_figure s h.from h.bytes h.out h.delivery k p f e)
  by_plan_lem (Refuse q a) e =
      refused_made (notice_party b) figure_of Alike s h q a (subst (Why (notice_party b) figure_of Alike s h) e (why_refused s h so long)) (refuses q a e)

makes : (b : Table) (s : List ℕ) → Fit b s → (h : Handed) → Fine h → Made (notice_party b) figure_of Alike s h
makes b s f h g =
    subst (λ (c : Table). Made (notice_party c) figure_of Alike s h) f.table
    (by_plan_lem s f.sound f.long h (notice_plan s h.from h.bytes h.out h.delivery) refl)

-- the theorem: b is the table of the start, of which L plays no part
pub notice_history_is_figure : (b : Table) (own : ℕ) (s : List ℕ) (hs : List Handed) → (notice_start_of b own s).number ≡ 0
    → Run (notice_party (without_longest b)) begins (notice_start_of b own s).state hs
notice_history_is_figure b own s hs h =
    let a = notice_accepted b own s h in
    let c = without_longest b in
    let s0 = (notice_start_of b own s).state in
    let (table, number, heard) = notice_start_says b own s h in
    let size : length s0 ≡ length s = rw a.state (length_put 0 (notice_fresh b own) s) in
    let fit : Fit c s0 = record { sound = notice_start_sound b own s h; long = rw size a.long; table = table } in
    subst (λ (x : Figure). Run (notice_party c) x s0 hs) (notice_begins b own s h)
    (runs (notice_party c) figure_of Alike (alike c) (Fit c) Fine (still c) (stays c) (makes c) hs (fine hs) s0 fit (figure_of s0) ((alike c).self (figure_of s0)))
