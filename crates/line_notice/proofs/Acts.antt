-- From a sound state with buffers long enough, a notice board's step refuses and takes what the board on paper does.
use Prim.Native.Nat.{ℕ, zero, suc, ◌-◌, ◌≤◌}
use native.Mathlib.Omega.{arith}
use mathlib.Core.Bool.{Bool, true, false, not, ◌&&◌}
use mathlib.Core.Path.{◌≡◌, refl}
use mathlib.Core.List.{List}
use mathlib.Core.Option.{some}
use borrow.Author.Tests.{leb-true, le-ltb}
use lib.ListN.{length}
use lib.Dec.{leb, eqb}
use Rattle.octets.specs.Bytes.{pick}
use Rattle.octets.specs.Sets.{has}
use Rattle.octets.proofs.Picks.{and_l}
use Rattle.table.specs.Table.{is_board}
use Rattle.table.specs.declared.Table.{Table}
use Rattle.record.specs.Form.{Read, Form, Fault}
use Rattle.state.specs.Kept.{member}
use Rattle.board.specs.Planned.{Plan, Refuse, Take, is_stray}
use Rattle.notice.specs.Form.{notice_most, notice_out_bytes, parse_notice, notice_in, sort_of}
use Rattle.notice.specs.State.{notice_state_bytes, notice_table, heard_in, notice_view, notice_kept}
use Rattle.notice.specs.Sound.{notice_sound}
use Rattle.notice.specs.declared.Heard.{Heard}
use Rattle.notice.proofs.Facts.{notice_whole, notice_kind_few}
use Rattle.notice_step.specs.Planned.{heard_again, by_heard, by_notice_form, notice_plan_by, notice_plan}
use Rattle.line.specs.Run.{hand}
use Rattle.line.specs.Bytes.{bytes}
use Rattle.line.specs.Core.{Word, echo, vote, Move, still, acquire, hear}
use Rattle.line.specs.Notice.{takes, answers}
use Rattle.line.specs.Plain.{Simple}
use Rattle.line.proofs.Tests.{off}
use Rattle.line_desk.proofs.Shown.{member_before}
use Rattle.line_notice.proofs.Notes.{note_of, note_read, read_note, form_of}
use Rattle.line_notice.proofs.Shown.{sort_for, shown_by}

-- a plan for the record r, and a move that does the same
pub data Follow (from : ℕ) (r : List ℕ) : Plan → Move (List ℕ) → Type 0 where
  refuses : {q a : ℕ} → Follow from r (Refuse q a) still
  acquires : {p f : ℕ} → Follow from r (Take 1 p f) (acquire (some (notice_in f r)))
  hears : {p f : ℕ} (w : Word) → Follow from r (Take (sort_for w) p f) (hear w from (notice_in f r))

module _ (b : Table) (from : ℕ) (r : List ℕ) (m : Heard) (kept : ℕ → ℕ → List ℕ) where
  abbrev S : Simple (List ℕ)
  S = shown_by m kept

  -- the refusals in their order: a board, its sender, late, again
  send_chain : (p f : ℕ) (c a d q : Bool)
      → Follow from r (pick (not c) (Refuse 4 0) (pick (not a) (Refuse 6 0) (pick d (Refuse 8 0) (pick q (Refuse 9 0) (Take 1 p f)))))
      (pick (c && (a && (not d && not q))) (acquire (some (notice_in f r))) still)
  unfolding pick
  send_chain p f false a d q = refuses
  send_chain p f true false d q = refuses
  send_chain p f true true true q = refuses
  send_chain p f true true false true = refuses
  send_chain p f true true false false = acquires

  word_chain : (w : Word) (p f : ℕ) (c d q e : Bool) → (c ≡ true → e ≡ q)
      → Follow from r (pick (not c) (Refuse 4 0) (pick d (Refuse 8 0) (pick q (Refuse 9 0) (Take (sort_for w) p f))))
      (pick (c && (not d && not e)) (hear w from (notice_in f r)) still)
  unfolding pick
  word_chain w p f false d q e h = refuses
  word_chain w p f true true q e h = refuses
  word_chain w p f true false true true h = refuses
  word_chain w p f true false false false h = hears w
  word_chain w p f true false true false h = off (cc (h refl))
  word_chain w p f true false false true h = off (cc (h refl))

  same_board : (set : ℕ) → is_board b from ≡ true → member set from ≡ has set (from - 1)
  unfolding is_board
  same_board set h = member_before set from (leb-true 1 from (and_l (leb 1 from) _ h))

  -- by the record's sort
  by_sort : (k f : ℕ) → 1 ≤ k → k ≤ 3
      → Follow from r (pick (not (is_board b from)) (Refuse 4 0) (by_heard b m from k f)) (takes (form_of b) S from (some (note_of k (notice_in f r))))
  unfolding by_heard is_stray heard_again note_of pick is_board
  by_sort zero f l h = absurd (omega arith)
  by_sort (suc zero) f l h = send_chain 0 f (leb 1 from && leb from b.n) (eqb from b.sender) m.done m.acquired
  by_sort (suc (suc zero)) f l h =
      word_chain echo 0 f (leb 1 from && leb from b.n) m.done (has m.echoes (from - 1)) (member m.echoes from) (same_board m.echoes)
  by_sort (suc (suc (suc zero))) f l h =
      word_chain vote 0 f (leb 1 from && leb from b.n) m.done (has m.votes (from - 1)) (member m.votes from) (same_board m.votes)
  by_sort (suc (suc (suc (suc k)))) f l h = absurd (omega arith)

  fault : (c : Bool) (why at : ℕ) → Follow from r (pick (not c) (Refuse 4 0) (Refuse why at)) still
  unfolding pick
  fault true why at = refuses
  fault false why at = refuses

  follow_by : (x : Read) → parse_notice r ≡ x
      → Follow from r (pick (not (is_board b from)) (Refuse 4 0) (by_notice_form b m from x)) (takes (form_of b) S from (note_read r x))
  unfolding by_notice_form note_read
  follow_by (Fault why at) e = fault (is_board b from) why at
  follow_by (Form k p f) e =
      let w = notice_whole r k p f e in
      let (low, high) = notice_kind_few k w.kind_ok in
      by_sort (sort_of k) f (omega arith) (omega arith)

-- what a board holds: a sound state, and buffers long enough
module _ (s : List ℕ) (from : ℕ) (r o d : List ℕ) (long : notice_state_bytes ≤ length s) (so : notice_sound (notice_view s) ≡ true)
    (ho : notice_out_bytes ≤ length o) (hd : notice_most ≤ length d) where
  -- no refusal 2 or 3
  pub plan_is : notice_plan s from r o d ≡ pick (not (is_board (notice_table s) from)) (Refuse 4 0) (by_notice_form (notice_table s) (heard_in s) from (parse_notice r))
  unfolding notice_plan notice_plan_by pick
  plan_is = rw (le-ltb (length s) notice_state_bytes long, so, le-ltb (length o) notice_out_bytes ho, le-ltb (length d) notice_most hd)

  pub follow : bytes r ≡ true → Follow from r (notice_plan s from r o d) (answers (form_of (notice_table s)) (shown_by (heard_in s) (notice_kept s)) (hand from r))
  unfolding read_note pick
  follow h = rw (plan_is, h) (follow_by (notice_table s) from r (heard_in s) (notice_kept s) (parse_notice r) refl)
