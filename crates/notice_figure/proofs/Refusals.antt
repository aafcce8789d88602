-- Why a record is refused, in a sound state: it is no message of figure 4, or the party receives it without effect.
use mathlib.Core.Path.{◌≡◌, refl}
use Prim.Native.Nat.{ℕ, zero, suc, ◌-◌, ◌≤◌}
use mathlib.Core.List.{List}
use mathlib.Core.Bool.{Bool, true, false, not, ◌||◌}
use mathlib.Core.Logic.{inl, inr}
use native.Mathlib.Omega.{arith}
use borrow.Author.Tests.{ltb-true, not-true, not-false}
use lib.Dec.{eqb, ltb}
use lib.ListN.{length}
use Rattle.octets.specs.Bytes.{pick}
use Rattle.octets.specs.Sets.{has}
use Rattle.octets.proofs.Picks.{never}
use Rattle.table.specs.Table.{is_board}
use Rattle.table.specs.declared.Table.{Table}
use Rattle.table.proofs.Within.{board_number}
use Rattle.record.specs.Form.{Read, Form, Fault}
use Rattle.board.specs.Planned.{Plan, Take, is_stray}
use Rattle.notice.specs.Form.{notice_most, notice_out_bytes, parse_notice, notice_in, sort_of}
use Rattle.notice.specs.State.{notice_state_bytes, notice_table, heard_in, notice_kept, notice_view}
use Rattle.notice.specs.Sound.{notice_sound}
use Rattle.notice.specs.declared.Heard.{Heard}
use Rattle.notice.proofs.Facts.{notice_whole, notice_kind_few}
use Rattle.notice_step.specs.Planned.{heard_again, by_heard, by_notice_form, notice_plan_by, notice_plan}
use Rattle.figure.specs.Received.{noted, shown}
use Rattle.figure.specs.Run.{Handed, passed_over, Party}
use Rattle.figure.proofs.Noting.{shown_again}
use Rattle.figure.proofs.Refusals.{Reason, Why, why_pick, why_take, why_not, stray_send, going_or}
use Rattle.notice_figure.specs.Figure.{Figure, receive}
use Rattle.notice_figure.specs.Shown.{figure_of, message_of}
use Rattle.notice_figure.specs.History.{read_as, NoMessage, short_out, short_delivery, no_party, malformed, notice_party}
use Rattle.notice_figure.proofs.Alike.{Alike}

-- ---- received without effect

module _ (s : List ℕ) (from : ℕ) (r : List ℕ) (f : ℕ) (known : is_board (notice_table s) from ≡ true) where
  abbrev b : Table
  b = notice_table s

  abbrev m : Heard
  m = heard_in s

  abbrev x : Figure
  x = figure_of s

  number : suc (from - 1) ≡ from
  number = let (one, few) = board_number b from known in omega arith

  Idle : ℕ → Type 0
  Idle k = (is_stray b from k || (m.done || heard_again m (from - 1) k)) ≡ true → Alike (receive b from (message_of k f r) x) x

  send_idle : Idle 1
  unfolding Idle is_stray heard_again receive message_of pick
  send_idle h = record {
    acquired = refl;
    voted = refl;
    done = refl;
    sent = λ d a. stray_send (eqb from b.sender) (notice_in f r) (rw (d, a) at h);
    echo_of = λ d. refl;
    vote_of = λ d. refl;
  }

  -- a second one of a board
  second : (set k : ℕ) → has set (from - 1) ≡ true → noted from (notice_in f r) (shown set (notice_kept s k)) ≡ shown set (notice_kept s k)
  second set k h = rw number at (shown_again set (from - 1) (notice_kept s k) (notice_in f r) h)

  echo_idle : Idle 2
  unfolding Idle is_stray heard_again receive message_of pick
  echo_idle h = record {
    acquired = refl;
    voted = refl;
    done = refl;
    sent = λ d a. refl;
    echo_of = λ d. second m.echoes 2 (going_or m.done (has m.echoes (from - 1)) h d);
    vote_of = λ d. refl;
  }

  vote_idle : Idle 3
  unfolding Idle is_stray heard_again receive message_of pick
  vote_idle h = record {
    acquired = refl;
    voted = refl;
    done = refl;
    sent = λ d a. refl;
    echo_of = λ d. refl;
    vote_of = λ d. second m.votes 3 (going_or m.done (has m.votes (from - 1)) h d);
  }

  idle : (k : ℕ) → 1 ≤ k → k ≤ 3 → Idle k
  idle zero l h = absurd (omega arith)
  idle (suc zero) l h = send_idle
  idle (suc (suc zero)) l h = echo_idle
  idle (suc (suc (suc zero))) l h = vote_idle
  idle (suc (suc (suc (suc k)))) l h = absurd (omega arith)

-- ---- the refusals, in their order

module _ (s : List ℕ) (h : Handed) (so : notice_sound (notice_view s) ≡ true) (long : notice_state_bytes ≤ length s) where
  abbrev party : Party
  party = notice_party (notice_table s)

  abbrev Explained : Plan → Type 0
  Explained = Why party figure_of Alike s h

  module _ (known : is_board (notice_table s) h.from ≡ true) where
    without : (q k p f : ℕ) → passed_over q ≡ true → parse_notice h.bytes ≡ Form k p f
        → (is_stray (notice_table s) h.from (sort_of k) || ((heard_in s).done || heard_again (heard_in s) (h.from - 1) (sort_of k))) ≡ true
        → Reason party figure_of Alike s h q 0
    unfolding read_as Idle
    without q k p f e form c =
        let (four, six) = notice_kind_few k (notice_whole h.bytes k p f form).kind_ok in
        let still = idle s h.from h.bytes f known (sort_of k) (omega arith) (omega arith) c in
        inr (refl, (message_of (sort_of k) f h.bytes, record { party = known; reads = rw form }, e, still))

    by_form : (x : Read) → parse_notice h.bytes ≡ x → Explained (by_notice_form (notice_table s) (heard_in s) h.from x)
    unfolding by_notice_form by_heard heard_again
    by_form (Fault w a) e = why_not party figure_of Alike s h w a (malformed w a e)
    by_form (Form k p f) e =
        let stray = is_stray (notice_table s) h.from (sort_of k) in
        let again = heard_again (heard_in s) (h.from - 1) (sort_of k) in
        why_pick party figure_of Alike s h stray 6 _ (λ c. without 6 k p f refl e (rw c))
        (λ a. why_pick party figure_of Alike s h (heard_in s).done 8 _ (λ c. without 8 k p f refl e (rw (a, c)))
        (λ g. why_pick party figure_of Alike s h again 9 (Take (sort_of k) 0 f) (λ c. without 9 k p f refl e (rw (a, g, c)))
        (λ i. why_take party figure_of Alike s h (sort_of k) 0 f)))

  -- a lent buffer is too short, and it is not the state
  too_short : (ltb (length h.out) notice_out_bytes || ltb (length h.delivery) notice_most) ≡ true → NoMessage (notice_table s) h 2 0
  too_short = go (ltb (length h.out) notice_out_bytes) refl
    where
      go : (c : Bool) → ltb (length h.out) notice_out_bytes ≡ c → (c || ltb (length h.delivery) notice_most) ≡ true → NoMessage (notice_table s) h 2 0
      go true e k = short_out (ltb-true (length h.out) notice_out_bytes e)
      go false e k = short_delivery (ltb-true (length h.delivery) notice_most k)

  -- a record refused with 2, 4 or 20 to 25 is no message; one refused with 6, 8 or 9 is received without effect; none is refused with 3
  pub why_refused : Why (notice_party (notice_table s)) figure_of Alike s h (notice_plan s h.from h.bytes h.out h.delivery)
  unfolding notice_plan notice_plan_by
  why_refused =
      let short = ltb (length h.out) notice_out_bytes || ltb (length h.delivery) notice_most in
      let known = is_board (notice_table s) h.from in
      why_pick party figure_of Alike s h (ltb (length s) notice_state_bytes) 2 _ (λ c. absurd (omega (arith, ltb-true (length s) notice_state_bytes c)))
      (λ a. why_pick party figure_of Alike s h (not (notice_sound (notice_view s))) 3 _ (λ c. never (rw so at c))
      (λ g. why_pick party figure_of Alike s h short 2 _ (λ c. inl (too_short c))
      (λ l. why_pick party figure_of Alike s h (not known) 4 _ (λ c. inl (no_party (not-true known c)))
      (λ k. by_form (not-false known k) (parse_notice h.bytes) refl))))
