-- From a sound state with buffers long enough, the byte step refuses and takes what the broadcast's step does.
use Prim.Native.Nat.{ℕ, zero, suc, ◌+◌, ◌-◌, ◌*◌, ◌≤◌, ◌<◌}
use native.Mathlib.Omega.{arith}
use mathlib.Core.Bool.{Bool, true, false, not, ◌&&◌, ◌||◌}
use mathlib.Core.Path.{◌≡◌, refl}
use mathlib.Core.List.{List}
use borrow.Author.Tests.{leb-true, leb-false, le-ltb, lt-ltb, eqb-true}
use lib.ListN.{length}
use lib.Dec.{leb, ltb, eqb}
use Rattle.octets.specs.Bytes.{pick}
use Rattle.octets.specs.Sets.{has}
use Rattle.octets.proofs.Laws.{length_part}
use Rattle.octets.proofs.Picks.{and_l}
use Rattle.table.specs.Table.{s_max, is_board}
use Rattle.table.specs.declared.Table.{Table}
use Rattle.record.specs.Form.{Read, Form, Fault, out_bytes, parse, fragment_ok}
use Rattle.record.proofs.Facts.{Whole, whole}
use Rattle.record.proofs.PartLaws.{kind_few}
use Rattle.state.specs.State.{fixed_bytes, view, state_size, table_of, marks_of}
use Rattle.state.specs.Kept.{member}
use Rattle.state.specs.Sound.{sound}
use Rattle.state.specs.declared.Marks.{Marks}
use Rattle.board.specs.Planned.{Plan, Refuse, Take, is_short, is_stray, is_late, is_again, by_marks, by_form, plan_by, plan_of}
use Rattle.board.specs.Stepped.{record_root, record_path, record_fragment}
use Rattle.line.specs.Run.{hand}
use Rattle.line.proofs.Tests.{off}
use Rattle.line_fragments.specs.Step.{send, echo, vote, Line, BoardState, Act, refuse, take, act_on, act}
use Rattle.line.specs.Bytes.{bytes}
use Rattle.line_code.specs.Parts.{FragmentRecord, code_of, line_of, of_kind, record_read, read_record}
use Rattle.line_desk.proofs.Shown.{member_before}
use Rattle.line_demand.proofs.Shown.{shown_of}

not_over : (x y : ℕ) → ltb y x ≡ not (leb x y)
not_over x y = go (leb x y) (leb-true x y) (leb-false x y)
  where
    go : (c : Bool) → (c ≡ true → x ≤ y) → (c ≡ false → y < x) → ltb y x ≡ not c
    go true h k = le-ltb y x (h refl)
    go false h k = lt-ltb y x (k refl)

-- a vote's fragment is empty
vote_empty : (f : ℕ) → fragment_ok 3 f ≡ true → f ≡ 0
unfolding fragment_ok pick
vote_empty f h = eqb-true f 0 h

-- the send and the echo that a record's bytes say, with p path nodes and f fragment bytes
abbrev pub send_in : List ℕ → ℕ → ℕ → FragmentRecord
send_in r p f = send (record_root r) (record_path p r) (record_fragment p f r)

abbrev pub echo_in : List ℕ → ℕ → ℕ → FragmentRecord
echo_in r p f = echo (record_root r) (record_path p r) (record_fragment p f r)

-- a plan for the record r, and an act that does the same
pub data Follow (b : Table) (from : ℕ) (r : List ℕ) : Plan → Act (line_of b) → Type 0 where
  refuses : {q a : ℕ} → Follow b from r (Refuse q a) refuse
  sends : {p f : ℕ} → Follow b from r (Take 1 p f) (take from (send_in r p f))
  echoes : {p f : ℕ} → Follow b from r (Take 2 p f) (take from (echo_in r p f))
  votes : {p f : ℕ} → Follow b from r (Take 3 p f) (take from (vote (record_root r)))

module _ (b : Table) (own from : ℕ) (r : List ℕ) (m : Marks) (s : List ℕ) where
  abbrev B : Line b.n b.t (code_of b)
  B = line_of b

  abbrev S : BoardState B
  S = shown_of b own m s

  -- the refusals of each kind, in their order: a board, its sender, its length, late, again
  send_chain : (p f : ℕ) (c a l d o q : Bool)
      → Follow b from r (pick (not c) (Refuse 4 0) (pick (not a) (Refuse 6 0) (pick (not l) (Refuse 7 0) (pick (d || o) (Refuse 8 0) (pick q (Refuse 9 0) (Take 1 p f))))))
      (pick (c && (a && (l && (not d && (not o && not q))))) (take from (send_in r p f)) refuse)
  unfolding pick
  send_chain p f false a l d o q = refuses
  send_chain p f true false l d o q = refuses
  send_chain p f true true false d o q = refuses
  send_chain p f true true true true o q = refuses
  send_chain p f true true true false true q = refuses
  send_chain p f true true true false false true = refuses
  send_chain p f true true true false false false = sends

  echo_chain : (p f : ℕ) (c l d q e : Bool) → (c ≡ true → e ≡ q)
      → Follow b from r (pick (not c) (Refuse 4 0) (pick (not l) (Refuse 7 0) (pick (d || false) (Refuse 8 0) (pick q (Refuse 9 0) (Take 2 p f)))))
      (pick (c && (l && (not d && not e))) (take from (echo_in r p f)) refuse)
  unfolding pick
  echo_chain p f false l d q e h = refuses
  echo_chain p f true false d q e h = refuses
  echo_chain p f true true true q e h = refuses
  echo_chain p f true true false true true h = refuses
  echo_chain p f true true false false false h = echoes
  echo_chain p f true true false true false h = off (cc (h refl))
  echo_chain p f true true false false true h = off (cc (h refl))

  vote_chain : (p f : ℕ) (c d q e : Bool) → (c ≡ true → e ≡ q)
      → Follow b from r (pick (not c) (Refuse 4 0) (pick (d || false) (Refuse 8 0) (pick q (Refuse 9 0) (Take 3 p f))))
      (pick (c && (not d && not e)) (take from (vote (record_root r))) refuse)
  unfolding pick
  vote_chain p f false d q e h = refuses
  vote_chain p f true true q e h = refuses
  vote_chain p f true false true true h = refuses
  vote_chain p f true false false false h = votes
  vote_chain p f true false true false h = off (cc (h refl))
  vote_chain p f true false false true h = off (cc (h refl))

  long_is : (k p f : ℕ) → Whole r k p f → ltb (s_max b) f ≡ not (leb (length (record_fragment p f r)) (s_max b))
  long_is k p f w = rw (length_part (39 + 32 * p) f r (omega (arith, w.ends))) (not_over f (s_max b))

  same_board : (set : ℕ) → is_board b from ≡ true → member set from ≡ has set (from - 1)
  unfolding is_board
  same_board set h = member_before set from (leb-true 1 from (and_l (leb 1 from) _ h))

  abbrev Follows : ℕ → ℕ → ℕ → Type 0
  Follows k p f = Follow b from r (pick (not (is_board b from)) (Refuse 4 0) (by_marks b m from k p f)) (act_on B S from (of_kind k (record_root r) (record_path p r) (record_fragment p f r)))

  send_follows : (p f : ℕ) → Whole r 1 p f → Follows 1 p f
  unfolding by_marks is_stray is_late is_again of_kind pick is_board
  send_follows p f w = rw (long_is 1 p f w)
      (send_chain p f (leb 1 from && leb from b.n) (eqb from b.sender) (leb (length (record_fragment p f r)) (s_max b)) m.done m.output m.acquired)

  echo_follows : (p f : ℕ) → Whole r 2 p f → Follows 2 p f
  unfolding by_marks is_stray is_late is_again of_kind pick is_board
  echo_follows p f w = rw (long_is 2 p f w)
      (echo_chain p f (leb 1 from && leb from b.n) (leb (length (record_fragment p f r)) (s_max b)) m.done (has m.echoes (from - 1))
      (member m.echoes from) (same_board m.echoes))

  vote_follows : (p f : ℕ) → Whole r 3 p f → Follows 3 p f
  unfolding by_marks is_stray is_late is_again of_kind pick is_board
  vote_follows p f w =
      let z : f ≡ 0 = vote_empty f w.fragment_ok_lem in
      rw (le-ltb (s_max b) f (omega arith))
      (vote_chain p f (leb 1 from && leb from b.n) m.done (has m.votes (from - 1)) (member m.votes from) (same_board m.votes))

  by_kind : (k p f : ℕ) → 1 ≤ k → k ≤ 3 → Whole r k p f → Follows k p f
  by_kind zero p f l h w = absurd (omega arith)
  by_kind (suc zero) p f l h w = send_follows p f w
  by_kind (suc (suc zero)) p f l h w = echo_follows p f w
  by_kind (suc (suc (suc zero))) p f l h w = vote_follows p f w
  by_kind (suc (suc (suc (suc k)))) p f l h w = absurd (omega arith)

  fault : (c : Bool) (why at : ℕ) → Follow b from r (pick (not c) (Refuse 4 0) (Refuse why at)) refuse
  unfolding pick
  fault true why at = refuses
  fault false why at = refuses

  follow_by : (x : Read) → parse r ≡ x → Follow b from r (pick (not (is_board b from)) (Refuse 4 0) (by_form b m from x)) (act_on B S from (record_read r x))
  unfolding by_form record_read
  follow_by (Fault why at) e = fault (is_board b from) why at
  follow_by (Form k p f) e =
      let w = whole r k p f e in
      let (one, few) = kind_few k w.kind_ok in
      by_kind k p f one few w

-- what a board holds: a sound state of the table b, and buffers long enough
module _ (b : Table) (own : ℕ) (s : List ℕ) (tb : table_of s ≡ b) (so : sound (view s) ≡ true) (room : state_size b ≤ length s)
    (from : ℕ) (r o d : List ℕ) (ho : out_bytes ≤ length o) (hd : b.longest ≤ length d) where
  -- no refusal 2 or 3
  pub plan_is : plan_of s from r o d ≡ pick (not (is_board b from)) (Refuse 4 0) (by_form b (marks_of s) from (parse r))
  unfolding plan_of plan_by is_short state_size pick
  plan_is = rw (
    le-ltb (length s) fixed_bytes (omega arith),
    so,
    tb,
    le-ltb (length s) (fixed_bytes + b.n * s_max b) room,
    le-ltb (length o) out_bytes ho,
    le-ltb (length d) b.longest hd,
  )

  pub follow : bytes r ≡ true → Follow b from r (plan_of s from r o d) (act (line_of b) (shown_of b own (marks_of s) s) (hand from r))
  unfolding read_record pick
  follow h = rw (plan_is, h) (follow_by b own from r (marks_of s) s (parse r) refl)
