-- An accepted step is figure 4: the record is received, then every branch that is enabled fires until none is.
use mathlib.Core.Path.{◌≡◌, refl, sym, subst, ap, ◌∙◌}
use Prim.Native.Nat.{ℕ, zero, suc, ◌-◌, ◌≤◌}
use mathlib.Core.List.{List, [], ◌∷◌, ◌++◌, append-nil}
use mathlib.Core.Bool.{Bool, true, false, not, ◌&&◌, ◌||◌}
use mathlib.Core.Option.{none, some}
use native.Mathlib.Omega.{arith}
use lib.Dec.{eqb}
use Rattle.octets.specs.Bytes.{pick}
use Rattle.octets.proofs.Picks.{not_none, or_false}
use Rattle.table.specs.declared.Table.{Table}
use Rattle.table.proofs.Within.{within}
use Rattle.board.specs.Planned.{Take, is_stray}
use Rattle.board_step.specs.Step.{delivered}
use Rattle.notice.specs.Form.{notice_record, notice_in}
use Rattle.notice.specs.State.{notice_table, heard_in, notice_kept, hearing, notice_due, notice_won, notice_settled}
use Rattle.notice.specs.declared.Heard.{Heard}
use Rattle.notice_step.specs.Planned.{heard_again, notice_plan}
use Rattle.notice_step.specs.Step.{kept_notice, notice_leaves, notice_said, notice_ends, notice_taken, notice_by_plan, notice_step_of}
use Rattle.notice_step.proofs.Taken.{NoticeTaken, notice_taken_lem, taken_sounds}
use Rattle.notice_step.proofs.Leaves.{leaves_table}
use Rattle.notice_step.proofs.Stays.{leaves_sound}
use Rattle.figure.specs.Acts.{sends}
use Rattle.figure.specs.Fires.{Still, Fires}
use Rattle.figure.proofs.Acts.{send_if, output_if, word_sent, word_output, answers}
use Rattle.figure.specs.Run.{Handed, AsParty}
use Rattle.notice_figure.specs.Figure.{Message, send, echo, vote, Event, Figure, receive, acquire, Branch}
use Rattle.notice_figure.specs.Shown.{figure_in, figure_of, message_of, as_record}
use Rattle.notice_figure.specs.History.{notice_party}
use Rattle.notice_figure.proofs.Firing.{Only, word_one, only_echo, only_vote, waiting, send_fires, send_one}
use Rattle.notice_figure.proofs.Overdue.{nothing_overdue}
use Rattle.notice_figure.proofs.Received.{left_shown, echo_received, vote_received, send_acquired}
use Rattle.notice_figure.proofs.Words.{word_fires}

-- the record r from a board, with the buffers o and d
abbrev handed : ℕ → List ℕ → List ℕ → List ℕ → Handed
handed from r o d = record { from = from; bytes = r; out = o; delivery = d }

-- a record of sort k with f notice bytes that is taken is the message m, and what the step does with it is what the figure does
abbrev Figured : {s : List ℕ} {from : ℕ} {r o d : List ℕ} {k f : ℕ} → NoticeTaken s from r o d k f → Message → Type 0
Figured {s} {from} {r} {o} {d} {k} {f} t m = AsParty (notice_party (notice_table s)) figure_of s (handed from r o d) m (notice_taken k f s from r o d)

module _ {s : List ℕ} {from : ℕ} {r o d : List ℕ} {k f : ℕ} (t : NoticeTaken s from r o d k f) where
  abbrev b : Table
  b = notice_table s

  abbrev v : List ℕ
  v = notice_in f r

  before : Still (Branch b) (figure_of s)
  before = nothing_overdue s t.sound

  -- nothing is overdue in the state left
  left_still : Still (Branch b) (figure_of (notice_leaves k f from r s))
  left_still =
      subst (λ (c : Table). Still (Branch c) (figure_of (notice_leaves k f from r s))) (leaves_table t)
      (nothing_overdue (notice_leaves k f from r s) (leaves_sound t))

  going : (hearing k (from - 1) (heard_in s)).done ≡ false
  unfolding hearing
  going = t.allowed.not_done

  left_word : eqb k 1 ≡ false → figure_of (notice_leaves k f from r s)
      ≡ figure_in (notice_settled b true (hearing k (from - 1) (heard_in s)) (notice_kept (kept_notice k (from - 1) f r s)) v) (kept_notice k (from - 1) f r s)
  left_word word =
      let s1 = kept_notice k (from - 1) f r s in
      left_shown t ∙ ap (λ (c : Bool). figure_in (notice_settled b (not c) (hearing k (from - 1) (heard_in s)) (notice_kept s1) v) s1) word

  -- an echo or a vote
  words : eqb k 1 ≡ false → (m : Message) → figure_in (hearing k (from - 1) (heard_in s)) (kept_notice k (from - 1) f r s) ≡ receive b from m (figure_of s)
      → Only b v (receive b from m (figure_of s)) → Figured t m
  unfolding notice_taken notice_said notice_ends pick
  words word m received only =
      let m1 = hearing k (from - 1) (heard_in s) in
      let s1 = kept_notice k (from - 1) f r s in
      let left = notice_leaves k f from r s in
      let a = not m1.voted && notice_due b m1 (notice_kept s1) v in
      let c = (m1.voted || notice_due b m1 (notice_kept s1) v) && notice_won b m1 (notice_kept s1) v in
      let es : List Event = send_if a (vote v) ++ output_if c v in
      let start = receive b from m (figure_of s) in
      let after : figure_of left ≡ figure_in (notice_settled b true m1 (notice_kept s1) v) s1 = left_word word in
      let fires : Fires (Branch b) start es (figure_of left) =
      subst (λ (y : Figure). Fires (Branch b) y es (figure_of left)) received
      (subst (Fires (Branch b) (figure_in m1 s1) es) (sym after) (word_fires b m1 s1 v going (subst (Still (Branch b)) after left_still))) in
      record {
        events = es;
        fires = fires;
        answer = rw word (answers as_record some es _ _ left o d (word_sent as_record some a c (vote v) v) (word_output as_record some a c (vote v) v d));
        only = λ fs y h. word_one b (within b (taken_sounds t).lim) v start only fs es y (figure_of left) h fires;
      }

echo_figured : {s : List ℕ} {from : ℕ} {r o d : List ℕ} {f : ℕ} (t : NoticeTaken s from r o d 2 f) → Figured t (echo (notice_in f r))
echo_figured {s} {from} {r} {o} {d} {f} t =
    words t refl (echo (notice_in f r)) (echo_received t) (only_echo (notice_table s) (figure_of s) (before t) refl t.allowed.not_done from (notice_in f r))

vote_figured : {s : List ℕ} {from : ℕ} {r o d : List ℕ} {f : ℕ} (t : NoticeTaken s from r o d 3 f) → Figured t (vote (notice_in f r))
vote_figured {s} {from} {r} {o} {d} {f} t =
    words t refl (vote (notice_in f r)) (vote_received t) (only_vote (notice_table s) (figure_of s) (before t) refl t.allowed.not_done from (notice_in f r))

-- a send brings nothing that is due
settled_none : (b : Table) (m : Heard) (kept : ℕ → ℕ → List ℕ) (v s : List ℕ) → figure_in (notice_settled b false m kept v) s ≡ figure_in m s
unfolding notice_settled
settled_none b m kept v s = λ j. record {
  acquired = m.acquired;
  voted = or_false m.voted j;
  done = or_false m.done j;
  sent = none;
  echo_of = (figure_in m s).echo_of;
  vote_of = (figure_in m s).vote_of;
}

module _ {s : List ℕ} {from : ℕ} {r o d : List ℕ} {f : ℕ} (t : NoticeTaken s from r o d 1 f) where
  abbrev v1 : List ℕ
  v1 = notice_in f r

  send_left : figure_of (notice_leaves 1 f from r s) ≡ acquire (figure_of s)
  unfolding kept_notice pick
  send_left = left_shown t ∙ settled_none (notice_table s) (hearing 1 (from - 1) (heard_in s)) (notice_kept s) v1 s ∙ send_acquired (heard_in s) (from - 1) s

  from_sender : eqb from (notice_table s).sender ≡ true
  unfolding is_stray
  from_sender = not_none (eqb from (notice_table s).sender) t.allowed.stray

  fresh : (heard_in s).acquired ≡ false
  unfolding heard_again pick
  fresh = t.allowed.again

  abbrev waits : Figure
  waits = waiting (notice_table s) (figure_of s) (before t) refl t.allowed.not_done v1 fresh

  send_received : waits ≡ receive (notice_table s) from (send v1) (figure_of s)
  unfolding receive pick
  send_received = rw from_sender

  send_figured : Figured t (send (notice_in f r))
  unfolding notice_taken notice_said notice_ends delivered pick
  send_figured =
      let b = notice_table s in
      let es : List Event = sends (echo v1) ∷ [] in
      let left = notice_leaves 1 f from r s in
      let shown : acquire (figure_of s) ≡ figure_of left = sym send_left in
      record {
        events = es;
        fires = subst (λ (y : Figure). Fires (Branch b) y es (figure_of left)) send_received
            (subst (Fires (Branch b) waits es) shown (send_fires b (figure_of s) (before t) refl t.allowed.not_done v1 fresh));
        answer = answers as_record some es _ _ left o d (append-nil (notice_record 5 v1)) refl;
        only = λ fs y g.
            let g' = subst (λ (x : Figure). Fires (Branch b) x fs y) (sym send_received) g in
            let (e, q) = send_one b (figure_of s) (before t) refl t.allowed.not_done v1 fresh fs y g' in
            (e, q ∙ shown);
      }

by_sort : {s : List ℕ} {from : ℕ} {r o d : List ℕ} {f : ℕ} (k : ℕ) → 1 ≤ k → k ≤ 3 → (t : NoticeTaken s from r o d k f) → Figured t (message_of k f r)
unfolding message_of pick
by_sort zero l h t = absurd (omega arith)
by_sort (suc zero) l h t = send_figured t
by_sort (suc (suc zero)) l h t = echo_figured t
by_sort (suc (suc (suc zero))) l h t = vote_figured t
by_sort (suc (suc (suc (suc k)))) l h t = absurd (omega arith)

-- the theorem: an accepted step is figure 4
pub notice_step_is_figure : (s : List ℕ) (from : ℕ) (r o d : List ℕ) (k p f : ℕ) → notice_plan s from r o d ≡ Take k p f
    → AsParty (notice_party (notice_table s)) figure_of s (record { from = from; bytes = r; out = o; delivery = d }) (message_of k f r) (notice_step_of s from r o d)
unfolding notice_step_of notice_by_plan
notice_step_is_figure s from r o d k p f e =
    let t = notice_taken_lem s from r o d k p f e in
    rw e (by_sort k t.one t.few t)
