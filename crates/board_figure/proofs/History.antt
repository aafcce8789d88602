-- One board from its start, any records handed over one after the other, accepted or refused, is a run of figure 5.
use mathlib.Core.Path.{◌≡◌, refl, subst}
use Prim.Native.Nat.{ℕ, ◌≤◌}
use mathlib.Core.List.{List}
use mathlib.Core.Bool.{true}
use lib.ListN.{length}
use Rattle.octets.proofs.Laws.{length_put}
use Rattle.table.specs.declared.Table.{Table}
use Rattle.code.specs.Code.{All, Byte}
use Rattle.state.specs.State.{state_size, view, table_of, own_of}
use Rattle.state.specs.Sound.{sound}
use Rattle.board.specs.Planned.{Plan, Refuse, Take, plan_of}
use Rattle.board.specs.Started.{fresh_bytes, start_of}
use Rattle.board.proofs.Starts.{start_table, start_own, accepted, start_sound}
use Rattle.board.proofs.Taken.{taken}
use Rattle.board_step.specs.Step.{refused, by_plan, step_of}
use Rattle.board_step.proofs.Outcomes.{stays}
use Rattle.figure.specs.Fires.{Still}
use Rattle.figure.specs.Run.{Handed, Party, Run}
use Rattle.figure.proofs.History.{Made, took, runs}
use Rattle.figure.proofs.Refusals.{Why, refused_made}
use Rattle.board_figure.specs.Figure.{Figure, begins, Branch}
use Rattle.board_figure.specs.Shown.{figure_of, message_of}
use Rattle.board_figure.specs.History.{OfBytes, read_as, Means, board_party}
use Rattle.board_figure.proofs.Alike.{Alike, alike}
use Rattle.board_figure.proofs.Begins.{start_begins}
use Rattle.board_step.proofs.Octets.{step_bytes, start_bytes}
use Rattle.board_figure.proofs.Overdue.{nothing_overdue}
use Rattle.board_figure.proofs.Refusals.{why_refused}
use Rattle.board_figure.proofs.StepIsFigure.{step_is_figure}

-- ---- a board's states: sound, large enough, bytes, with one table and one own number

record Fit (b : Table) (own : ℕ) (s : List ℕ) : Type 0 where
  sound : sound (view s) ≡ true
  room : state_size (table_of s) ≤ length s
  bytes : All Byte s
  table : table_of s ≡ b
  number : own_of s ≡ own

module _ (b : Table) (own : ℕ) (s : List ℕ) (f : Fit b own s) where
  still : Still (Branch b own) (figure_of s)
  still =
      subst (λ (c : Table). Still (Branch c own) (figure_of s)) f.table
      (subst (λ (j : ℕ). Still (Branch (table_of s) j) (figure_of s)) f.number (nothing_overdue s f.sound))

  fit_stays : (h : Handed) → OfBytes h → Fit b own (step_of s h.from h.bytes h.out h.delivery).state
  fit_stays h g =
      let k = stays s h.from h.bytes h.out h.delivery f.sound in
      record {
        sound = k.still_sound;
        room = rw (k.table, k.size) f.room;
        bytes = step_bytes s h.from h.bytes h.out h.delivery f.bytes g;
        table = rw k.table f.table;
        number = rw k.own f.number;
      }

-- what a board makes of one record
module _ (s : List ℕ) (so : sound (view s) ≡ true) (room : state_size (table_of s) ≤ length s) (bytes : All Byte s) (h : Handed) (g : OfBytes h) where
  abbrev party : Party
  party = board_party (table_of s) (own_of s)

  refuses : (q a : ℕ) → plan_of s h.from h.bytes h.out h.delivery ≡ Refuse q a
      → step_of s h.from h.bytes h.out h.delivery ≡ refused q a s h.out h.delivery
  unfolding step_of by_plan
  refuses q a e = rw e

  means : (k p f : ℕ) → plan_of s h.from h.bytes h.out h.delivery ≡ Take k p f → Means (table_of s) h (message_of k p f h.bytes)
  unfolding read_as
  means k p f e = let t = taken s h.from h.bytes h.out h.delivery k p f e in record { party = t.board; reads = rw t.form }

  by_plan_lem : (z : Plan) → plan_of s h.from h.bytes h.out h.delivery ≡ z → Made party figure_of Alike s h
  by_plan_lem (Take k p f) e =
      took (message_of k p f h.bytes) (means k p f e) (step_is_figure s h.from h.bytes h.out h.delivery bytes g k p f e)
  by_plan_lem (Refuse q a) e = refused_made party figure_of Alike s h q a (subst (Why party figure_of Alike s h) e (why_refused s h so room)) (refuses q a e)

makes : (b : Table) (own : ℕ) (s : List ℕ) → Fit b own s → (h : Handed) → OfBytes h → Made (board_party b own) figure_of Alike s h
makes b own s f h g =
    subst (λ (c : Table). Made (board_party c own) figure_of Alike s h) f.table
    (subst (λ (j : ℕ). Made (board_party (table_of s) j) figure_of Alike s h) f.number
    (by_plan_lem s f.sound f.room f.bytes h g (plan_of s h.from h.bytes h.out h.delivery) refl))

-- the theorem
pub history_is_figure : (b : Table) (own : ℕ) (s : List ℕ) → All Byte s → (hs : List Handed) → All OfBytes hs → (start_of b own s).number ≡ 0
    → Run (board_party b own) begins (start_of b own s).state hs
history_is_figure b own s bytes hs g h =
    let a = accepted b own s h in
    let s0 = (start_of b own s).state in
    let table : table_of s0 ≡ b = rw a.state (start_table b own s a.lim a.known a.long) in
    let number : own_of s0 ≡ own = rw a.state (start_own b own s a.lim a.known a.long) in
    let size : length s0 ≡ length s = rw a.state (length_put 0 (fresh_bytes b own) s) in
    let fit : Fit b own s0 =
    record { sound = start_sound b own s h; room = rw (table, size) a.room; bytes = start_bytes b own s bytes h; table = table; number = number } in
    let like = alike b own in
    subst (λ (x : Figure). Run (board_party b own) x s0 hs) (start_begins b own s h)
    (runs (board_party b own) figure_of Alike like (Fit b own) OfBytes (still b own) (fit_stays b own) (makes b own) hs g s0 fit (figure_of s0)
    (like.self (figure_of s0)))
