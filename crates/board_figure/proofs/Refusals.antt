-- Why a record is refused, in a sound state: it is no message of figure 5, or the party receives it without effect.
use mathlib.Core.Path.{◌≡◌, refl}
use Prim.Native.Nat.{ℕ, zero, suc, ◌-◌, ◌≤◌}
use mathlib.Core.List.{List}
use mathlib.Core.Bool.{Bool, true, false, not, ◌||◌}
use mathlib.Core.Logic.{inl, inr}
use native.Mathlib.Omega.{arith}
use borrow.Author.Tests.{ltb-true, not-true, not-false}
use lib.Dec.{eqb, ltb}
use lib.ListN.{length}
use Rattle.octets.specs.Bytes.{pick}
use Rattle.octets.specs.Sets.{has}
use Rattle.octets.proofs.Picks.{or_false, never}
use Rattle.table.specs.Table.{s_max, is_board}
use Rattle.table.specs.declared.Table.{Table}
use Rattle.table.proofs.Within.{board_number}
use Rattle.record.specs.Form.{Read, Form, Fault, out_bytes, parse}
use Rattle.record.proofs.Facts.{whole}
use Rattle.record.proofs.PartLaws.{kind_few}
use Rattle.state.specs.State.{fixed_bytes, state_size, view, table_of, own_of, marks_of}
use Rattle.state.specs.Sound.{sound}
use Rattle.state.specs.declared.Marks.{Marks}
use Rattle.board.specs.Planned.{Plan, Take, is_short, is_stray, is_late, is_again, by_marks, by_form, plan_by, plan_of}
use Rattle.board.specs.Stepped.{record_root, record_fragment}
use Rattle.figure.specs.Received.{noted, shown}
use Rattle.figure.specs.Run.{Handed, passed_over, Party}
use Rattle.figure.proofs.Noting.{shown_again}
use Rattle.figure.proofs.Refusals.{Reason, Why, why_pick, why_take, why_not, stray_send, going_or}
use Rattle.board_figure.specs.Figure.{Echo, Figure, correct, receive}
use Rattle.board_figure.specs.Shown.{kept_echo, kept_vote, figure_of, piece_of, message_of}
use Rattle.board_figure.specs.History.{read_as, NoMessage, short_out, short_delivery, no_party, malformed, too_long, board_party}
use Rattle.board_figure.proofs.Alike.{Alike}

-- ---- received without effect

going_late : (d h : Bool) → ((d || false) || h) ≡ true → d ≡ false → h ≡ true
going_late d h e = going_or d h (rw (or_false d) at e)

module _ (s : List ℕ) (from : ℕ) (r : List ℕ) (p f : ℕ) (known : is_board (table_of s) from ≡ true) where
  abbrev b : Table
  b = table_of s

  abbrev m : Marks
  m = marks_of s

  abbrev x : Figure
  x = figure_of s

  number : suc (from - 1) ≡ from
  number = let (one, few) = board_number b from known in omega arith

  -- a second one of a board
  second : {X : Type 0} (set : ℕ) (kept : ℕ → X) (v : X) → has set (from - 1) ≡ true → noted from v (shown set kept) ≡ shown set kept
  second set kept v h = rw number at (shown_again set (from - 1) kept v h)

  Idle : ℕ → Type 0
  Idle k = (is_stray b from k || (is_late m k || is_again m (from - 1) k)) ≡ true → Alike (receive b from (message_of k p f r) x) x

  send_idle : Idle 1
  unfolding Idle is_stray is_late is_again receive message_of pick
  send_idle h = record {
    acquired = refl;
    voted = refl;
    output = refl;
    done = refl;
    sent = λ d o a. stray_send (eqb from b.sender) (piece_of p f r) (rw (d, o, a) at h);
    echo_of = λ d. refl;
    vote_of = λ d. refl;
  }

  echo_idle : Idle 2
  unfolding Idle is_stray is_late is_again receive message_of pick
  echo_idle h =
      let e : Echo = record { root = record_root r; fragment = record_fragment p f r; usable = correct b from (piece_of p f r) } in
      record {
        acquired = refl;
        voted = refl;
        output = refl;
        done = refl;
        sent = λ d o a. refl;
        echo_of = λ d. second m.echoes (kept_echo (s_max b) m.usable s) e (going_late m.done (has m.echoes (from - 1)) h d);
        vote_of = λ d. refl;
      }

  vote_idle : Idle 3
  unfolding Idle is_stray is_late is_again receive message_of pick
  vote_idle h = record {
    acquired = refl;
    voted = refl;
    output = refl;
    done = refl;
    sent = λ d o a. refl;
    echo_of = λ d. refl;
    vote_of = λ d. second m.votes (kept_vote s) (record_root r) (going_late m.done (has m.votes (from - 1)) h d);
  }

  idle : (k : ℕ) → 1 ≤ k → k ≤ 3 → Idle k
  idle zero l h = absurd (omega arith)
  idle (suc zero) l h = send_idle
  idle (suc (suc zero)) l h = echo_idle
  idle (suc (suc (suc zero))) l h = vote_idle
  idle (suc (suc (suc (suc k)))) l h = absurd (omega arith)

-- ---- the refusals, in their order

module _ (s : List ℕ) (h : Handed) (so : sound (view s) ≡ true) (room : state_size (table_of s) ≤ length s) where
  abbrev party : Party
  party = board_party (table_of s) (own_of s)

  abbrev Explained : Plan → Type 0
  Explained = Why party figure_of Alike s h

  module _ (known : is_board (table_of s) h.from ≡ true) where
    without : (q k p f : ℕ) → passed_over q ≡ true → parse h.bytes ≡ Form k p f
        → (is_stray (table_of s) h.from k || (is_late (marks_of s) k || is_again (marks_of s) (h.from - 1) k)) ≡ true → Reason party figure_of Alike s h q 0
    unfolding read_as Idle
    without q k p f e form c =
        let (one, few) = kind_few k (whole h.bytes k p f form).kind_ok in
        let still = idle s h.from h.bytes p f known k one few c in
        inr (refl, (message_of k p f h.bytes, record { party = known; reads = rw form }, e, still))

    by_form_lem : (x : Read) → parse h.bytes ≡ x → Explained (by_form (table_of s) (marks_of s) h.from x)
    unfolding by_form by_marks
    by_form_lem (Fault w a) e = why_not party figure_of Alike s h w a (malformed w a e)
    by_form_lem (Form k p f) e =
        let b = table_of s in
        let m = marks_of s in
        let stray = is_stray b h.from k in
        let late = is_late m k in
        let again = is_again m (h.from - 1) k in
        why_pick party figure_of Alike s h stray 6 _ (λ c. without 6 k p f refl e (rw c))
        (λ a. why_pick party figure_of Alike s h (ltb (s_max b) f) 7 _ (λ c. inl (too_long k p f e (ltb-true (s_max b) f c)))
        (λ l. why_pick party figure_of Alike s h late 8 _ (λ c. without 8 k p f refl e (rw (a, c)))
        (λ g. why_pick party figure_of Alike s h again 9 (Take k p f) (λ c. without 9 k p f refl e (rw (a, g, c)))
        (λ i. why_take party figure_of Alike s h k p f))))

  -- a lent buffer is too short, and it is not the state
  too_short : is_short (table_of s) (length s) (length h.out) (length h.delivery) ≡ true → NoMessage (table_of s) h 2 0
  unfolding is_short
  too_short = go (ltb (length s) (state_size (table_of s))) (ltb (length h.out) out_bytes) refl refl
    where
      go : (c d : Bool) → ltb (length s) (state_size (table_of s)) ≡ c → ltb (length h.out) out_bytes ≡ d
          → (c || (d || ltb (length h.delivery) (table_of s).longest)) ≡ true → NoMessage (table_of s) h 2 0
      go true d e g k = absurd (omega (arith, ltb-true (length s) (state_size (table_of s)) e))
      go false true e g k = short_out (ltb-true (length h.out) out_bytes g)
      go false false e g k = short_delivery (ltb-true (length h.delivery) (table_of s).longest k)

  -- a record refused with 2, 4, 7 or 20 to 25 is no message; one refused with 6, 8 or 9 is received without effect; none is refused with 3
  pub why_refused : Why (board_party (table_of s) (own_of s)) figure_of Alike s h (plan_of s h.from h.bytes h.out h.delivery)
  unfolding plan_of plan_by state_size
  why_refused =
      let short = is_short (table_of s) (length s) (length h.out) (length h.delivery) in
      let known = is_board (table_of s) h.from in
      why_pick party figure_of Alike s h (ltb (length s) fixed_bytes) 2 _ (λ c. absurd (omega (arith, ltb-true (length s) fixed_bytes c)))
      (λ a. why_pick party figure_of Alike s h (not (sound (view s))) 3 _ (λ c. never (rw so at c))
      (λ g. why_pick party figure_of Alike s h short 2 _ (λ c. inl (too_short c))
      (λ l. why_pick party figure_of Alike s h (not known) 4 _ (λ c. inl (no_party (not-true known c)))
      (λ k. by_form_lem (not-false known k) (parse h.bytes) refl))))
