-- An accepted step is figure 5: the record is received, then every branch that is enabled fires until none is.
use mathlib.Core.Path.{◌≡◌, refl, sym, subst, ap, ◌∙◌}
use Prim.Native.Nat.{ℕ, zero, suc, ◌-◌, ◌≤◌, ◌<◌}
use mathlib.Core.List.{List, ◌++◌}
use mathlib.Core.Bool.{Bool, true, false, not, ◌&&◌}
use mathlib.Core.Option.{none}
use native.Mathlib.Omega.{arith}
use lib.Dec.{eqb}
use lib.ListN.{length}
use Rattle.octets.specs.Bytes.{pick, put}
use Rattle.octets.proofs.Picks.{or_none_r, not_none, or_false}
use Rattle.table.specs.Table.{s_max}
use Rattle.table.specs.declared.Table.{Table}
use Rattle.table.proofs.Within.{board_number}
use Rattle.code.specs.Code.{All, Byte}
use Rattle.record.proofs.Facts.{whole}
use Rattle.record.proofs.PartLaws.{kind_few}
use Rattle.state.specs.State.{view, view_of, table_of, own_of, marks_of}
use Rattle.state.specs.declared.Marks.{Marks}
use Rattle.state.proofs.Facts.{Sounds, sounds}
use Rattle.board.specs.Planned.{Take, is_stray, is_late, is_again, plan_of}
use Rattle.board.specs.Stepped.{record_root, marked, kept, voted_now, output_now, ends_now, with_flags, settled_to, leaves}
use Rattle.board.proofs.Taken.{Taken, taken, not_done, fragment_room}
use Rattle.board.proofs.KeptLaws.{kept_length, kept_table}
use Rattle.board.proofs.StepSound.{fit, settled_sounds}
use Rattle.deliver.specs.Delivered.{Left}
use Rattle.board_step.specs.Step.{Outcome, outcome, stepped, good, place_of, put_out, result_in, delivered, said_by, taken_of, by_plan, step_of}
use Rattle.board_step.proofs.Records.{root_length, path_length, fragment_length}
use Rattle.board_step.proofs.Taking.{formed}
use Rattle.figure.specs.Fires.{Still, Fires}
use Rattle.figure.proofs.Acts.{send_if, output_if, word_output, send_output, answers}
use Rattle.figure.specs.Run.{AsParty}
use Rattle.board_figure.specs.Figure.{Piece, Message, echo, vote, Event, Figure, correct, receive, At, acquire, Branch}
use Rattle.board_figure.specs.Shown.{figure_in, figure_of, piece_of, message_of, as_record}
use Rattle.board_figure.specs.History.{board_party}
use Rattle.board_figure.proofs.Firing.{Only, word_one, only_echo, only_vote, waiting, send_fires, send_one}
use Rattle.board_step.proofs.Octets.{kept_bytes}
use Rattle.board_figure.proofs.Overdue.{nothing_overdue}
use Rattle.board_figure.proofs.Received.{echo_received, vote_received, send_acquired, figure_marks}
use Rattle.board_figure.proofs.Words.{as_is, vote_put_out, echo_put_out, output_voted, word_fires}

-- what a step does with the record r, which is the message m, is what the figure does: z is its outcome
abbrev Figured : (s : List ℕ) (from : ℕ) (r o d : List ℕ) → Message → Outcome → Type 0
Figured s from r o d m z = AsParty (board_party (table_of s) (own_of s)) figure_of s (record { from = from; bytes = r; out = o; delivery = d }) m z

module _ (s : List ℕ) (from : ℕ) (r o d : List ℕ) (p f : ℕ) where
  abbrev b : Table
  b = table_of s

  abbrev own : ℕ
  own = own_of s

  abbrev m0 : Marks
  m0 = marks_of s

  abbrev i : ℕ
  i = from - 1

  abbrev root : List ℕ
  root = record_root r

  abbrev piece : Piece
  piece = piece_of p f r

  -- the figure of the state left
  left_shown : (k : ℕ) → Taken s from r o d k p f → (ok : Bool)
      → figure_of (leaves ok k p f from r s)
      ≡ figure_in b (settled_to b (not (eqb k 1)) (marked k i ok m0) (kept (s_max b) k i p f r s) root) (kept (s_max b) k i p f r s)
  unfolding leaves
  left_shown k t ok =
      let s1 = kept (s_max b) k i p f r s in
      let m = settled_to b (not (eqb k 1)) (marked k i ok m0) s1 root in
      figure_marks m s1 (rw (kept_length (s_max b) k i p f r s) t.long) (fit b m s1 (settled_sounds s from r o d ok k p f t))
      ∙ ap (λ (a : Table). figure_in a m s1) (kept_table (s_max b) k i p f r s)

  -- an echo or a vote: marks m and bytes s1 once it is kept, and the state left
  words : (k : ℕ) (m : Marks) (s1 left : List ℕ) → All Byte s1 → Sounds (view_of b (settled_to b true m s1 root) s1) → m.done ≡ false → (m.output ≡ true → m.voted ≡ true)
      → figure_of left ≡ figure_in b (settled_to b true m s1 root) s1
      → figure_in b m s1 ≡ receive b from (message_of k p f r) (figure_of s)
      → Only b own root (receive b from (message_of k p f r) (figure_of s))
      → (w : List ℕ) (x : Left) → w ≡ put_out false (not m.voted && voted_now b true m s1 root) p f r
      → x ≡ delivered (ends_now b true m s1 root) (result_in b m s1 root) d
      → Figured s from r o d (message_of k p f r) (outcome (stepped (length w) x.kind x.size) left (put 0 w o) x.buffer)
  words k m s1 left bytes g going flags shown received only w x ew ex =
      let a = not m.voted && voted_now b true m s1 root in
      let c = ends_now b true m s1 root in
      let result = result_in b m s1 root in
      let es : List Event = send_if a (vote root) ++ output_if c result in
      let start = receive b from (message_of k p f r) (figure_of s) in
      let fires : Fires (Branch b own) start es (figure_of left) =
      subst (λ (y : Figure). Fires (Branch b own) y es (figure_of left)) received
      (subst (λ (y : Figure). Fires (Branch b own) (figure_in b m s1) es y) (sym shown) (word_fires b own m s1 root g going flags bytes)) in
      record {
        events = es;
        fires = fires;
        answer = answers as_record as_is es w x left o d (vote_put_out a c result p f r ∙ sym ew) (word_output as_record as_is a c (vote root) result d ∙ sym ex);
        only = λ fs y h. word_one b own g.lim root start only fs es y (figure_of left) h fires;
      }

  module _ (k : ℕ) (t : Taken s from r o d k p f) where
    number : suc i ≡ from
    number = let (one, few) = board_number b from t.board in omega arith

    low : i < b.n
    low = let (one, few) = board_number b from t.board in omega arith

    still : Still (Branch b own) (figure_of s)
    still = nothing_overdue s t.sound

    old : Sounds (view s)
    old = sounds (view s) t.sound

  -- the bytes once the record is kept show the message received
  pub echo_shown : Taken s from r o d 2 p f → figure_in (table_of s) (marked 2 (from - 1) (good 2 p f from r s) (marks_of s)) (kept (s_max (table_of s)) 2 (from - 1) p f r s)
      ≡ receive (table_of s) from (message_of 2 p f r) (figure_of s)
  unfolding message_of kept good place_of is_again pick
  echo_shown t =
      let h = formed s from r o d 2 p f t in
      rw (number 2 t) at
      (echo_received b m0 s i (old 2 t) t.long (low 2 t) piece f (root_length r p f h) (fragment_length r p f h) t.allowed.short (omega (arith, h.short))
      (fragment_room b from f (length s) t.board t.allowed.short t.room) t.allowed.again)

  pub vote_shown : Taken s from r o d 3 p f → figure_in (table_of s) (marked 3 (from - 1) (good 3 p f from r s) (marks_of s)) (kept (s_max (table_of s)) 3 (from - 1) p f r s)
      ≡ receive (table_of s) from (message_of 3 p f r) (figure_of s)
  unfolding message_of kept is_again pick
  vote_shown t =
      let h = formed s from r o d 3 p f t in
      rw (number 3 t) at (vote_received b m0 s i (old 3 t) t.long (low 3 t) root (good 3 p f from r s) (root_length r p f h) t.allowed.again)

  echo_figured : All Byte s → All Byte r → Taken s from r o d 2 p f → Figured s from r o d (message_of 2 p f r) (taken_of 2 p f s from r o d)
  unfolding taken_of message_of marked pick said_by
  echo_figured hs hr t =
      let ok = good 2 p f from r s in
      words 2 (marked 2 i ok m0) (kept (s_max b) 2 i p f r s) (leaves ok 2 p f from r s) (kept_bytes s from r o d hs hr (s_max b) 2 p f) (settled_sounds s from r o d ok 2 p f t) (not_done t)
      (output_voted m0 (old 2 t).flags) (left_shown 2 t ok) (echo_shown t) (only_echo b own from (figure_of s) (still 2 t) refl (not_done t) piece) _ _ refl refl

  vote_figured : All Byte s → All Byte r → Taken s from r o d 3 p f → Figured s from r o d (message_of 3 p f r) (taken_of 3 p f s from r o d)
  unfolding taken_of message_of marked pick said_by
  vote_figured hs hr t =
      let ok = good 3 p f from r s in
      words 3 (marked 3 i ok m0) (kept (s_max b) 3 i p f r s) (leaves ok 3 p f from r s) (kept_bytes s from r o d hs hr (s_max b) 3 p f) (settled_sounds s from r o d ok 3 p f t) (not_done t)
      (output_voted m0 (old 3 t).flags) (left_shown 3 t ok) (vote_shown t) (only_vote b own from (figure_of s) (still 3 t) refl (not_done t) root) _ _ refl refl

  -- a send brings nothing that is due
  settled_none : (m : Marks) (s1 : List ℕ) → figure_in b (settled_to b false m s1 root) s1 ≡ figure_in b m s1
  unfolding settled_to with_flags voted_now output_now ends_now
  settled_none m s1 = λ j. record {
    acquired = m.acquired;
    voted = or_false m.voted j;
    output = or_false m.output j;
    done = or_false m.done j;
    sent = none;
    echo_of = (figure_in b m s1).echo_of;
    vote_of = (figure_in b m s1).vote_of;
  }

  send_left : Taken s from r o d 1 p f → (ok : Bool) → figure_of (leaves ok 1 p f from r s) ≡ acquire (figure_of s)
  unfolding kept pick
  send_left t ok = left_shown 1 t ok ∙ settled_none (marked 1 i ok m0) s ∙ send_acquired b m0 s i ok

  module _ (t : Taken s from r o d 1 p f) where
    from_sender : eqb from b.sender ≡ true
    unfolding is_stray
    from_sender = not_none (eqb from b.sender) t.allowed.stray

    at_loop : At false (figure_of s)
    unfolding is_late
    at_loop = record { going = not_done t; place = or_none_r m0.done m0.output t.allowed.late }

    fresh : m0.acquired ≡ false
    unfolding is_again pick
    fresh = t.allowed.again

    abbrev waits : Figure
    waits = waiting b own (figure_of s) piece (still 1 t) at_loop fresh

    send_received : waits ≡ receive b from (message_of 1 p f r) (figure_of s)
    unfolding receive message_of pick
    send_received = rw from_sender

    send_figured : Figured s from r o d (message_of 1 p f r) (taken_of 1 p f s from r o d)
    unfolding taken_of good place_of voted_now ends_now marked pick said_by
    send_figured =
        let h = formed s from r o d 1 p f t in
        let ok = correct b own piece in
        let es : List Event = send_if ok (echo piece) in
        let left = leaves ok 1 p f from r s in
        let shown : acquire (figure_of s) ≡ figure_of left = sym (send_left t ok) in
        let start = receive b from (message_of 1 p f r) (figure_of s) in
        record {
          events = es;
          fires = subst (λ (y : Figure). Fires (Branch b own) y es (figure_of left)) send_received
              (subst (λ (y : Figure). Fires (Branch b own) waits es y) shown (send_fires b own (figure_of s) piece (still 1 t) at_loop fresh));
          answer = answers as_record as_is es _ _ left o d (echo_put_out ok m0.voted p f r (path_length r p f h)) (send_output as_record as_is ok (echo piece) _ d);
          only = λ fs y g.
              let (e, q) = send_one b own (figure_of s) piece (still 1 t) at_loop fresh fs y (subst (λ (x : Figure). Fires (Branch b own) x fs y) (sym send_received) g) in
              (e, q ∙ shown);
        }

  by_kind : All Byte s → All Byte r → (k : ℕ) → 1 ≤ k → k ≤ 3 → Taken s from r o d k p f
      → Figured s from r o d (message_of k p f r) (taken_of k p f s from r o d)
  by_kind hs hr zero l h t = absurd (omega arith)
  by_kind hs hr (suc zero) l h t = send_figured t
  by_kind hs hr (suc (suc zero)) l h t = echo_figured hs hr t
  by_kind hs hr (suc (suc (suc zero))) l h t = vote_figured hs hr t
  by_kind hs hr (suc (suc (suc (suc k)))) l h t = absurd (omega arith)

-- the theorem: an accepted step is figure 5, of a state and a record that are strings of bytes
pub step_is_figure : (s : List ℕ) (from : ℕ) (r o d : List ℕ) → All Byte s → All Byte r → (k p f : ℕ) → plan_of s from r o d ≡ Take k p f
    → AsParty (board_party (table_of s) (own_of s)) figure_of s (record { from = from; bytes = r; out = o; delivery = d }) (message_of k p f r) (step_of s from r o d)
unfolding step_of by_plan
step_is_figure s from r o d hs hr k p f e =
    let t = taken s from r o d k p f e in
    let (one, few) = kind_few k (whole r k p f t.form).kind_ok in
    rw e (by_kind s from r o d p f hs hr k one few t)
