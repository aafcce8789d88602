-- One item handed over: what the functions do is what its step does, filed.
use mathlib.Core.Path.{◌≡◌, refl, sym, ap, ◌∙◌}
use Prim.Native.Nat.{ℕ, suc, ◌+◌, ◌-◌, ◌*◌, ◌≤◌}
use mathlib.Core.List.{List, [], ◌∷◌}
use mathlib.Core.Bool.{Bool, true, false, not, ◌&&◌}
use native.Mathlib.Omega.{arith}
use borrow.Author.Tests.{ne_eqb}
use lib.Dec.{eqb}
use lib.ListN.{length, get_or}
use Rattle.octets.specs.Bytes.{pick, part, put, two_at}
use Rattle.octets.proofs.Picks.{never}
use Rattle.table.specs.Table.{s_max}
use Rattle.record.specs.Form.{out_bytes, is_kind, parse, record_of}
use Rattle.record.proofs.Facts.{whole}
use Rattle.state.specs.State.{table_of, marks_of}
use Rattle.board.specs.Planned.{Plan, Refuse, Take, by_board, BuffersDo, plan_of}
use Rattle.board.specs.Stepped.{record_root, marked, kept, voted_now, ends_now, leaves}
use Rattle.board.proofs.Buffers.{ready_plan}
use Rattle.board.proofs.Taken.{Taken, taken, listed, listed_between}
use Rattle.board_step.specs.declared.Stepped.{Stepped}
use Rattle.board_step.specs.Step.{Outcome, stepped, outcome, good, put_out, said_by, delivered, taken_of, by_plan, step_of}
use Rattle.board_step.proofs.Records.{said_room, room_most, no_vote}
use Rattle.board_step.proofs.Taking.{formed}
use Rattle.board_step.proofs.Outcomes.{front_of}
use Rattle.mailbox.specs.Items.{Item}
use Rattle.board_mailbox.specs.declared.Mailed.{Mailed}
use Rattle.board_mailbox.specs.Asked.{filed_echo, filed_vote, filed_delivery, refusal_in}
use Rattle.board_mailbox.specs.Emptied.{Emptied, emptied, filed, handed}

-- ---- what the refusal's number says of the plan

number_of : (x : Plan) (q : ℕ) → q ≡ refusal_in x → (q ≡ 0 → ⊥) → (a : ℕ) × (x ≡ Refuse q a)
unfolding refusal_in
number_of (Refuse p a) q e n = (a, ap (λ (q : ℕ). Refuse q a) (sym e))
number_of (Take k p f) q e n = absurd (n e)

-- a record that is taken has its kind, its count of nodes and its length in its bytes
pub record Takes (s : List ℕ) (from : ℕ) (r o d : List ℕ) : Type 0 where
  pub plan : plan_of s from r o d ≡ Take (get_or r 0 0) (two_at r 35) (length r - 39 - 32 * two_at r 35)
  pub ends : 39 + 32 * two_at r 35 ≤ length r
  pub kind : is_kind (get_or r 0 0) ≡ true

module _ (s : List ℕ) (from : ℕ) (r o d : List ℕ) where
  taken_by : (x : Plan) → plan_of s from r o d ≡ x → 0 ≡ refusal_in x → Takes s from r o d
  unfolding refusal_in
  taken_by (Refuse q a) e z = absurd (omega (arith, (listed_between (listed s from r o d q a e)).0, z))
  taken_by (Take k p f) e z =
      let w = whole r k p f (taken s from r o d k p f e).form in
      let len : length r - 39 - 32 * p ≡ f = omega (arith, w.ends) in
      record { plan = rw (w.kind, w.path_count, len) e; ends = omega (arith, w.ends, w.path_count); kind = rw w.kind w.kind_ok }

  module _ (h : BuffersDo s (length o) (length d)) (q : ℕ) (e : q ≡ refusal_in (by_board (table_of s) (marks_of s) from (parse r))) where
    planned : q ≡ refusal_in (plan_of s from r o d)
    planned = e ∙ ap refusal_in (sym (ready_plan s from r o d h))

    pub refused_by : (q ≡ 0 → ⊥) → (a : ℕ) × (plan_of s from r o d ≡ Refuse q a)
    refused_by n = number_of (plan_of s from r o d) q planned n

    pub takes_now : q ≡ 0 → Takes s from r o d
    takes_now z = taken_by (plan_of s from r o d) refl (sym z ∙ planned)

  few : (x : Plan) → plan_of s from r o d ≡ x → refusal_in x ≤ 25
  unfolding refusal_in
  few (Refuse q a) e = (listed_between (listed s from r o d q a e)).1
  few (Take k p f) e = omega arith

  -- a refusal's number fits into a byte
  pub number_few : BuffersDo s (length o) (length d) → (q : ℕ) → q ≡ refusal_in (by_board (table_of s) (marks_of s) from (parse r)) → q ≤ 25
  number_few h q e = rw (planned h q e) (few (plan_of s from r o d) refl)

-- ---- what is filed

-- the code's three changes of an answer, and what the definition says of each field
by_delivery : (z n : ℕ) (m : Mailed) → filed_delivery z n m ≡ record {
  number = m.number;
  echo_length = m.echo_length;
  vote_length = m.vote_length;
  delivery = pick (not (eqb z 0)) z m.delivery;
  message_length = pick (not (eqb z 0)) n m.message_length;
}
unfolding filed_delivery pick
by_delivery z n m = go (eqb z 0)
  where
    go : (c : Bool) → pick c m (record { number = m.number; echo_length = m.echo_length; vote_length = m.vote_length; delivery = z; message_length = n })
        ≡ record {
          number = m.number;
          echo_length = m.echo_length;
          vote_length = m.vote_length;
          delivery = pick (not c) z m.delivery;
          message_length = pick (not c) n m.message_length;
        }
    go true = refl
    go false = refl

by_vote : (c : Bool) (len : ℕ) (m : Mailed) → (c ≡ true → eqb len 0 ≡ false) → filed_vote (pick c len 0) m ≡ record {
  number = m.number;
  echo_length = m.echo_length;
  vote_length = pick c len m.vote_length;
  delivery = m.delivery;
  message_length = m.message_length;
}
unfolding filed_vote pick
by_vote true len m h = rw (h refl)
by_vote false len m h = refl

by_echo : (c : Bool) (len : ℕ) (m : Mailed) → (c ≡ true → eqb len 0 ≡ false) → filed_echo (pick c len 0) m ≡ record {
  number = m.number;
  echo_length = pick c len m.echo_length;
  vote_length = m.vote_length;
  delivery = m.delivery;
  message_length = m.message_length;
}
unfolding filed_echo pick
by_echo true len m h = rw (h refl)
by_echo false len m h = refl

-- a record of a kind has bytes
some_bytes : (k : ℕ) → eqb 0 k ≡ false → (w : List ℕ) → eqb (get_or w 0 0) k ≡ true → eqb (length w) 0 ≡ false
some_bytes k e [] h = never (sym e ∙ h)
some_bytes k e (x ∷ w) h = ne_eqb (suc (length w)) 0 (λ q. omega arith)

module _ (i : ℕ) (m : Mailed) (s a e v d : List ℕ) where
  abbrev before : Emptied
  before = emptied m s a e v d

  -- a record w, put out into the echo buffer, and what is left beside it
  filed_by : (w s2 d2 : List ℕ) (z n : ℕ) → length w ≤ length e
      → filed i (outcome (stepped (length w) z n) s2 (put 0 w e) d2) before
      ≡ emptied (filed_delivery z n (filed_vote (pick (eqb (get_or w 0 0) 3) (length w) 0) (filed_echo (pick (eqb (get_or w 0 0) 2) (length w) 0) m))) s2
      (put i (0 ∷ []) a) (pick (eqb (get_or w 0 0) 2) (put 0 w e) e) (pick (eqb (get_or w 0 0) 3) (put 0 w v) v) d2
  unfolding filed
  filed_by w s2 d2 z n h = rw (
    front_of w e h,
    by_echo (eqb (get_or w 0 0) 2) (length w) m (some_bytes 2 refl w),
    by_vote (eqb (get_or w 0 0) 3) (length w) _ (some_bytes 3 refl w),
    by_delivery z n _,
  )

  -- after a send it is an echo
  filed_send : (g : Bool) (p f : ℕ) (r s2 d2 : List ℕ) (z n : ℕ) → length (put_out g false p f r) ≤ length e
      → filed i (outcome (stepped (length (put_out g false p f r)) z n) s2 (put 0 (put_out g false p f r) e) d2) before
      ≡ emptied (filed_delivery z n (filed_echo (length (put_out g false p f r)) m)) s2 (put i (0 ∷ []) a) (put 0 (put_out g false p f r) e) v d2
  unfolding put_out pick record_of filed_vote put
  filed_send true p f r s2 d2 z n h = filed_by (put_out true false p f r) s2 d2 z n h
  filed_send false p f r s2 d2 z n h = filed_by [] s2 d2 z n h

  -- after an echo or a vote it is a vote
  filed_word : (g : Bool) (p f : ℕ) (r s2 d2 : List ℕ) (z n : ℕ) → length (put_out false g p f r) ≤ length e
      → filed i (outcome (stepped (length (put_out false g p f r)) z n) s2 (put 0 (put_out false g p f r) e) d2) before
      ≡ emptied (filed_delivery z n (filed_vote (length (put_out false g p f r)) m)) s2 (put i (0 ∷ []) a) e (put 0 (put_out false g p f r) v) d2
  unfolding put_out pick record_of filed_echo put
  filed_word true p f r s2 d2 z n h = filed_by (put_out false true p f r) s2 d2 z n h
  filed_word false p f r s2 d2 z n h = filed_by [] s2 d2 z n h

-- ---- what a record that is taken has put out

module _ (s : List ℕ) (from : ℕ) (r : List ℕ) (p f : ℕ) (ok : Bool) where
  -- whether a record of kind k brings a vote
  abbrev pub voting : ℕ → Bool
  voting k =
      let b = table_of s in
      let m = marked k (from - 1) ok (marks_of s) in
      not m.voted && voted_now b (not (eqb k 1)) m (kept (s_max b) k (from - 1) p f r s) (record_root r)

  said_send : said_by ok 1 p f from r s ≡ put_out ok false p f r
  unfolding said_by voted_now marked
  said_send = ap (λ (b : Bool). put_out ok b p f r) (no_vote (marks_of s).voted)

  said_word : (k : ℕ) → (k ≡ 1 → ⊥) → said_by ok k p f from r s ≡ put_out false (voting k) p f r
  unfolding said_by
  said_word k n = ap (λ (e : Bool). put_out (e && ok) (voting k) p f r) (ne_eqb k 1 n)

  pub said_short : (o d : List ℕ) (k : ℕ) → Taken s from r o d k p f → length (said_by ok k p f from r s) ≤ out_bytes
  unfolding said_by
  said_short o d k t = omega (arith, said_room r p f (formed s from r o d k p f t) k ok (voting k), room_most k)

-- ---- an item

module _ (i : ℕ) (m : Mailed) (s a e v d : List ℕ) (from : ℕ) (r : List ℕ) where
  abbrev item : Item
  item = record { board = from; bytes = r }

  pub handed_refused : (q at : ℕ) → plan_of s from r e d ≡ Refuse q at → emptied m s (put i (q ∷ []) a) e v d ≡ handed i item (emptied m s a e v d)
  unfolding handed filed step_of by_plan filed_delivery filed_vote filed_echo pick part
  handed_refused q at h = rw h

  -- what a send that was taken leaves, by what its step leaves
  after_send : Outcome → Emptied
  after_send y = emptied (filed_echo y.answer.record_length m) y.state (put i (0 ∷ []) a) y.out v y.delivery

  send_by : (p f : ℕ) → plan_of s from r e d ≡ Take 1 p f → after_send (taken_of 1 p f s from r e d) ≡ handed i item (emptied m s a e v d)
  unfolding after_send handed step_of by_plan taken_of ends_now delivered filed_delivery pick
  send_by p f h =
      let ok = good 1 p f from r s in
      let w = said_send s from r p f ok in
      let t = taken s from r e d 1 p f h in
      let room : length (put_out ok false p f r) ≤ length e = omega (arith, rw w at (said_short s from r p f ok e d 1 t), t.out) in
      rw (h, w) (sym (filed_send i m s a e v d ok p f r (leaves ok 1 p f from r s) d 0 0 room))

  pub handed_send : (p f x : ℕ) (s2 e2 : List ℕ) → plan_of s from r e d ≡ Take 1 p f → outcome (stepped x 0 0) s2 e2 d ≡ taken_of 1 p f s from r e d
      → emptied (filed_echo x m) s2 (put i (0 ∷ []) a) e2 v d ≡ handed i item (emptied m s a e v d)
  unfolding after_send
  handed_send p f x s2 e2 h y = ap after_send y ∙ send_by p f h

  -- what an echo or a vote that was taken leaves
  after_word : Outcome → Emptied
  after_word y =
      emptied (filed_delivery y.answer.delivery y.answer.message_length (filed_vote y.answer.record_length m)) y.state (put i (0 ∷ []) a) e
      y.out y.delivery

  word_by : (k p f : ℕ) → (k ≡ 1 → ⊥) → plan_of s from r e d ≡ Take k p f → after_word (taken_of k p f s from r v d) ≡ handed i item (emptied m s a e v d)
  unfolding after_word handed step_of by_plan taken_of
  word_by k p f n h =
      let ok = good k p f from r s in
      let c = voting s from r p f ok k in
      let w = said_word s from r p f ok k n in
      let t = taken s from r e d k p f h in
      let room : length (put_out false c p f r) ≤ length e = omega (arith, rw w at (said_short s from r p f ok e d k t), t.out) in
      rw (h, w) (sym (filed_word i m s a e v d c p f r (leaves ok k p f from r s) _ _ _ room))

  pub handed_word : (k p f : ℕ) (y : Stepped) (s2 v2 d2 : List ℕ) → (k ≡ 1 → ⊥) → plan_of s from r e d ≡ Take k p f
      → outcome y s2 v2 d2 ≡ taken_of k p f s from r v d
      → emptied (filed_delivery y.delivery y.message_length (filed_vote y.record_length m)) s2 (put i (0 ∷ []) a) e v2 d2 ≡ handed i item (emptied m s a e v d)
  unfolding after_word
  handed_word k p f y s2 v2 d2 n h z = ap after_word z ∙ word_by k p f n h

-- a send brings no delivery: what the functions leave is what the definition says
pub takes_send : (s : List ℕ) (from : ℕ) (r e d : List ℕ) (p f : ℕ) (ok : Bool) (s2 e2 : List ℕ) (len : ℕ) → ok ≡ good 1 p f from r s
    → s2 ≡ leaves ok 1 p f from r s → len ≡ length (said_by ok 1 p f from r s) → e2 ≡ put 0 (said_by ok 1 p f from r s) e
    → outcome (stepped len 0 0) s2 e2 d ≡ taken_of 1 p f s from r e d
unfolding taken_of ends_now delivered pick
takes_send s from r e d p f ok s2 e2 len ey es el eo = rw (← ey, ← es, ← el, ← eo)
