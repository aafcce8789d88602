-- One echo at most, one vote and one delivery, over any items: a step that does it finds a flag down and leaves it up.
use mathlib.Core.Path.{◌≡◌, refl, sym, ◌∙◌}
use Prim.Native.Nat.{ℕ, ◌+◌, ◌-◌, ◌≤◌}
use mathlib.Core.List.{List, [], ◌∷◌}
use mathlib.Core.Bool.{Bool, true, false, not, ◌&&◌}
use mathlib.Core.Option.{Option}
use native.Mathlib.Omega.{arith}
use borrow.Author.Tests.{not-true}
use lib.Dec.{eqb}
use lib.ListN.{get_or}
use Rattle.octets.specs.Bytes.{pick, part}
use Rattle.octets.specs.Sets.{bit}
use Rattle.octets.proofs.Picks.{and_l, and_r, never, or_true}
use Rattle.table.specs.Table.{s_max}
use Rattle.record.specs.Form.{record_of}
use Rattle.state.specs.State.{table_of, marks_of}
use Rattle.state.specs.declared.Marks.{Marks}
use Rattle.board.specs.Planned.{Plan, Refuse, Take, is_again, plan_of}
use Rattle.board.specs.Stepped.{record_root, marked, kept, voted_now, ends_now, with_flags, settled_to}
use Rattle.board.proofs.Taken.{Taken, taken, not_done}
use Rattle.board_step.specs.Step.{Outcome, good, put_out, result_in, delivered, said_by, taken_of, by_plan, step_of}
use Rattle.board_step.proofs.Taking.{marks_left}
use Rattle.board_step.proofs.Outcomes.{front_of}
use Rattle.mailbox.specs.Items.{Item}
use Rattle.board_mailbox.specs.Emptied.{Emptied, put_out_by, is_put, delivers, step_for, filed, handed}
use Rattle.board_mailbox.specs.Once.{how_often, OneOfEach}
use Rattle.board_mailbox.proofs.Handing.{voting, said_short}

-- a step that leaves y from s does something only with the flag down, and then it is up; it never goes down
pub record OnlyOnce (flag : Marks → Bool) (does : Outcome → Bool) (s : List ℕ) (y : Outcome) : Type 0 where
  pub first : does y ≡ true → flag (marks_of s) ≡ false
  pub sets : does y ≡ true → flag (marks_of y.state) ≡ true
  pub keeps : flag (marks_of s) ≡ true → flag (marks_of y.state) ≡ true

-- ---- the kind of what is put out

module _ (p f : ℕ) (r : List ℕ) where
  pub is_echo : (e v : Bool) → eqb (get_or (put_out e v p f r) 0 0) 2 ≡ e
  unfolding put_out pick record_of
  is_echo true v = refl
  is_echo false true = refl
  is_echo false false = refl

  pub is_vote : (e v : Bool) → eqb (get_or (put_out e v p f r) 0 0) 3 ≡ not e && v
  unfolding put_out pick record_of
  is_vote true v = refl
  is_vote false true = refl
  is_vote false false = refl

-- a delivery only if it is due
only_due : (e : Bool) (x : Option (List ℕ)) (d : List ℕ) → not (eqb (delivered e x d).kind 0) ≡ true → e ≡ true
unfolding delivered pick
only_due true x d h = refl
only_due false x d h = never h

-- ---- a record that is taken

module _ (s : List ℕ) (from : ℕ) (r o d : List ℕ) (k p f : ℕ) (t : Taken s from r o d k p f) where
  abbrev ok : Bool
  ok = good k p f from r s

  abbrev m : Marks
  m = marked k (from - 1) ok (marks_of s)

  abbrev s1 : List ℕ
  s1 = kept (s_max (table_of s)) k (from - 1) p f r s

  abbrev y : Outcome
  y = taken_of k p f s from r o d

  flags_left : marks_of y.state ≡ settled_to (table_of s) (not (eqb k 1)) m s1 (record_root r)
  unfolding taken_of
  flags_left = marks_left s from r o d k p f t ok

  pub put_is : put_out_by y ≡ put_out (eqb k 1 && ok) (voting s from r p f ok k) p f r
  unfolding taken_of said_by
  put_is = front_of (said_by ok k p f from r s) o (omega (arith, said_short s from r p f ok o d k t, t.out))

  echo_once : OnlyOnce (λ (x : Marks). x.acquired) (is_put 2) s y
  unfolding settled_to with_flags marked is_again pick
  echo_once =
      let send : is_put 2 y ≡ true → eqb k 1 ≡ true = λ e. and_l (eqb k 1) ok (sym (rw put_is (is_echo p f r (eqb k 1 && ok) (voting s from r p f ok k))) ∙ e) in
      record {
        first = λ e. rw (send e) at t.allowed.again;
        sets = λ e. rw (flags_left, send e) (or_true (marks_of s).acquired);
        keeps = λ e. rw (flags_left, e);
      }

  vote_once : OnlyOnce (λ (x : Marks). x.voted) (is_put 3) s y
  unfolding settled_to with_flags marked voted_now
  vote_once =
      let votes : is_put 3 y ≡ true → voting s from r p f ok k ≡ true
      = λ e. and_r (not (eqb k 1 && ok)) _ (sym (rw put_is (is_vote p f r (eqb k 1 && ok) (voting s from r p f ok k))) ∙ e) in
      record {
        first = λ e. not-true (marks_of s).voted (and_l (not (marks_of s).voted) _ (votes e));
        sets = λ e. rw flags_left (and_r (not (marks_of s).voted) _ (votes e));
        keeps = λ e. rw (flags_left, e);
      }

  delivery_once : OnlyOnce (λ (x : Marks). x.done) delivers s y
  unfolding taken_of settled_to with_flags marked
  delivery_once =
      let b = table_of s in
      record {
        first = λ e. not_done t;
        sets = λ e. rw (flags_left, only_due (ends_now b (not (eqb k 1)) m s1 (record_root r)) (result_in b m s1 (record_root r)) d e) (or_true (marks_of s).done);
        keeps = λ e. rw (flags_left, e);
      }

-- ---- any step

module _ (s : List ℕ) (from : ℕ) (r o d : List ℕ) (flag : Marks → Bool) (does : Outcome → Bool)
    (refuses : (q a : ℕ) → does (by_plan (Refuse q a) s from r o d) ≡ false)
    (takes : (k p f : ℕ) → Taken s from r o d k p f → OnlyOnce flag does s (taken_of k p f s from r o d)) where
  by_plan_lem : (x : Plan) → plan_of s from r o d ≡ x → OnlyOnce flag does s (by_plan x s from r o d)
  unfolding by_plan
  by_plan_lem (Refuse q a) e = record { first = λ h. never (sym (refuses q a) ∙ h); sets = λ h. never (sym (refuses q a) ∙ h); keeps = λ h. h }
  by_plan_lem (Take k p f) e = takes k p f (taken s from r o d k p f e)

  once_by : OnlyOnce flag does s (step_of s from r o d)
  unfolding step_of
  once_by = by_plan_lem (plan_of s from r o d) refl

-- ---- over the items

module _ (flag : Marks → Bool) (does : Outcome → Bool) (once : (s : List ℕ) (from : ℕ) (r o d : List ℕ) → OnlyOnce flag does s (step_of s from r o d)) where
  step_once : (item : Item) (x : Emptied) → OnlyOnce flag does x.state (step_for item x)
  step_once item x = once x.state item.board item.bytes x.echo x.delivery

  left_by : (i : ℕ) (item : Item) (x : Emptied) → (handed i item x).state ≡ (step_for item x).state
  unfolding handed filed
  left_by i item x = refl

  bit_none : (b : Bool) → b ≡ false → bit b ≡ 0
  bit_none b e = rw e

  not_twice : (b c : Bool) → c ≡ true → (b ≡ true → c ≡ false) → b ≡ false
  not_twice true c e h = never (sym (h refl) ∙ e)
  not_twice false c e h = refl

  none_after : (i : ℕ) (items : List Item) (x : Emptied) → flag (marks_of x.state) ≡ true → how_often does i items x ≡ 0
  unfolding how_often
  none_after i [] x h = refl
  none_after i (item ∷ rest) x h =
      let z = step_once item x in
      let a : bit (does (step_for item x)) ≡ 0 = bit_none _ (not_twice (does (step_for item x)) (flag (marks_of x.state)) h z.first) in
      let b : how_often does (i + 1) rest (handed i item x) ≡ 0 = none_after (i + 1) rest (handed i item x) (rw (left_by i item x) (z.keeps h)) in
      omega (arith, a, b)

  once_more : (i : ℕ) (item : Item) (rest : List Item) (x : Emptied) (b : Bool) → does (step_for item x) ≡ b → how_often does (i + 1) rest (handed i item x) ≤ 1
      → bit b + how_often does (i + 1) rest (handed i item x) ≤ 1
  once_more i item rest x true e h =
      omega (arith, none_after (i + 1) rest (handed i item x) (rw (left_by i item x) ((step_once item x).sets e)))
  once_more i item rest x false e h = omega arith

  at_most_one : (i : ℕ) (items : List Item) (x : Emptied) → how_often does i items x ≤ 1
  unfolding how_often
  at_most_one i [] x = omega arith
  at_most_one i (item ∷ rest) x = once_more i item rest x (does (step_for item x)) refl (at_most_one (i + 1) rest (handed i item x))

no_put : (s : List ℕ) (from : ℕ) (r o d : List ℕ) (q a k : ℕ) → eqb 0 k ≡ false → is_put k (by_plan (Refuse q a) s from r o d) ≡ false
unfolding by_plan part
no_put s from r o d q a k e = e

no_delivery : (s : List ℕ) (from : ℕ) (r o d : List ℕ) (q a : ℕ) → delivers (by_plan (Refuse q a) s from r o d) ≡ false
unfolding by_plan
no_delivery s from r o d q a = refl

-- any step
pub echo_steps : (s : List ℕ) (from : ℕ) (r o d : List ℕ) → OnlyOnce (λ (m : Marks). m.acquired) (is_put 2) s (step_of s from r o d)
echo_steps s from r o d = once_by s from r o d (λ (m : Marks). m.acquired) (is_put 2) (λ q a. no_put s from r o d q a 2 refl) (λ k p f t. echo_once s from r o d k p f t)

pub vote_steps : (s : List ℕ) (from : ℕ) (r o d : List ℕ) → OnlyOnce (λ (m : Marks). m.voted) (is_put 3) s (step_of s from r o d)
vote_steps s from r o d = once_by s from r o d (λ (m : Marks). m.voted) (is_put 3) (λ q a. no_put s from r o d q a 3 refl) (λ k p f t. vote_once s from r o d k p f t)

pub delivery_steps : (s : List ℕ) (from : ℕ) (r o d : List ℕ) → OnlyOnce (λ (m : Marks). m.done) delivers s (step_of s from r o d)
delivery_steps s from r o d = once_by s from r o d (λ (m : Marks). m.done) delivers (no_delivery s from r o d) (λ k p f t. delivery_once s from r o d k p f t)

-- "records put out (in total at most one echo and one vote)", and one delivery, whatever the items are
pub one_of_each : (items : List Item) (x : Emptied) → OneOfEach items x
one_of_each items x = record {
  echo = at_most_one (λ (m : Marks). m.acquired) (is_put 2) echo_steps 0 items x;
  vote = at_most_one (λ (m : Marks). m.voted) (is_put 3) vote_steps 0 items x;
  delivery = at_most_one (λ (m : Marks). m.done) delivers delivery_steps 0 items x;
}
