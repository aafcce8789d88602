-- What stands in the echo's, the vote's and the delivery's buffer once all items are handed over: what one of their steps put out, or delivered.
use Prim.Native.Nat.{ℕ, zero, suc, ◌+◌, ◌≤◌}
use native.Mathlib.Omega.{arith}
use mathlib.Core.Bool.{Bool, true, false, not, ◌&&◌}
use mathlib.Core.Path.{◌≡◌, refl, sym, ◌∙◌, ap, subst}
use mathlib.Core.Logic.{◌⊎◌, inl, inr}
use mathlib.Core.List.{List, [], ◌∷◌}
use mathlib.Core.Option.{Option, some, none}
use borrow.Author.Tests.{eqb-true, not-false}
use lib.Dec.{eqb}
use lib.ListN.{length, get_or}
use Rattle.octets.specs.Bytes.{pick, part, put}
use Rattle.octets.proofs.Laws.{length_part}
use Rattle.octets.proofs.Picks.{never}
use Rattle.record.specs.Form.{out_bytes, vote_bytes}
use Rattle.state.specs.declared.Marks.{Marks}
use Rattle.board.specs.Planned.{Plan, Refuse, Take, plan_of}
use Rattle.board.proofs.Taken.{Taken, taken}
use Rattle.deliver.specs.Delivered.{left_by}
use Rattle.board_step.specs.Asked.{out_room}
use Rattle.board_step.specs.Step.{Outcome, good, put_out, delivered, said_by, taken_of, by_plan, step_of}
use Rattle.board_step.proofs.Records.{said_room}
use Rattle.board_step.proofs.Taking.{formed}
use Rattle.board_step.proofs.Outcomes.{stays, front_of}
use Rattle.mailbox.specs.Items.{Item}
use Rattle.board_mailbox.specs.Emptied.{Emptied, put_out_by, is_put, delivers, step_for, filed, handed}
use Rattle.board_mailbox.proofs.Handing.{voting, said_short}
use Rattle.board_mailbox.proofs.OneOfEach.{is_echo, is_vote, put_is, echo_steps, vote_steps, delivery_steps}
use Rattle.board_mailbox.proofs.Walk.{OpenFor}
use Rattle.line.proofs.Tests.{none_some}
use Rattle.line_desk.specs.Desk.{record_in, put_in}
use Rattle.line_demand.specs.Boards.{delivered_in, given_in}
use Rattle.line_mailbox.proofs.Items.{PutIn, GaveIn}
use Rattle.line_mailbox.proofs.Slots.{Slot, DoesIn}

-- ---- a step

-- the record at the front of one buffer, put at the front of another
placed : (len : ℕ) (out e : List ℕ) → len ≤ length out → len ≤ length e → record_in len (put 0 (part 0 len out) e) ≡ record_in len out
placed zero out e h g = refl
placed (suc n) out e h g =
    let w = part 0 (suc n) out in
    let l : length w ≡ suc n = length_part 0 (suc n) out (omega arith) in
    ap some (ap (λ (a : ℕ). part 0 a (put 0 w e)) (sym l) ∙ front_of w e (omega arith))

module _ (s : List ℕ) (from : ℕ) (r o d : List ℕ) where
  -- what is known of every step
  record Steps (y : Outcome) : Type 0 where
    short : y.answer.record_length ≤ out_bytes
    kinds : (y.answer.record_length ≡ 0) ⊎ ((is_put 2 y ≡ true) ⊎ (is_put 3 y ≡ true))
    vote_short : is_put 3 y ≡ true → y.answer.record_length ≤ vote_bytes
    kept : delivers y ≡ false → y.delivery ≡ d

  module _ (k p f : ℕ) (t : Taken s from r o d k p f) where
    abbrev y : Outcome
    y = taken_of k p f s from r o d

    abbrev ok : Bool
    ok = good k p f from r s

    abbrev votes : Bool
    votes = voting s from r p f ok k

    kinds_by : (e v : Bool) → (length (put_out e v p f r) ≡ 0) ⊎ ((eqb (get_or (put_out e v p f r) 0 0) 2 ≡ true) ⊎ (eqb (get_or (put_out e v p f r) 0 0) 3 ≡ true))
    unfolding put_out pick
    kinds_by true v = inr (inl (is_echo p f r true v))
    kinds_by false true = inr (inr (is_vote p f r false true))
    kinds_by false false = inl refl

    -- a vote fits where a word's record may be put out
    vote_most : (e v : Bool) → eqb (get_or (put_out e v p f r) 0 0) 3 ≡ true → length (put_out e v p f r) ≤ vote_bytes
    unfolding out_room pick
    vote_most true v h = never (sym (is_vote p f r true v) ∙ h)
    vote_most false v h = said_room r p f (formed s from r o d k p f t) 3 false v

    not_due : (e : Bool) (x : Option (List ℕ)) → not (eqb (delivered e x d).kind 0) ≡ false → (delivered e x d).buffer ≡ d
    unfolding delivered left_by pick
    not_due true none h = never (sym h)
    not_due true (some m) h = never (sym h)
    not_due false x h = refl

    taking : Steps y
    unfolding taken_of said_by
    taking = record {
      short = said_short s from r p f ok o d k t;
      kinds = subst (λ w. (length (put_out (eqb k 1 && ok) votes p f r) ≡ 0) ⊎ ((eqb (get_or w 0 0) 2 ≡ true) ⊎ (eqb (get_or w 0 0) 3 ≡ true))) (sym (put_is s from r o d k p f t))
          (kinds_by (eqb k 1 && ok) votes);
      vote_short = λ h. vote_most (eqb k 1 && ok) votes (ap (λ (w : List ℕ). eqb (get_or w 0 0) 3) (sym (put_is s from r o d k p f t)) ∙ h);
      kept = λ h. not_due _ _ h;
    }

  by_plan_lem : (x : Plan) → plan_of s from r o d ≡ x → Steps (by_plan x s from r o d)
  unfolding by_plan
  by_plan_lem (Refuse q a) e = record {
    short = omega arith;
    kinds = inl refl;
    vote_short = λ h. omega arith;
    kept = λ h. refl;
  }
  by_plan_lem (Take k p f) e = taking k p f (taken s from r o d k p f e)

  any_step : Steps (step_of s from r o d)
  unfolding step_of
  any_step = by_plan_lem (plan_of s from r o d) refl

module _ (item : Item) (x : Emptied) where
  step_facts : Steps x.state item.board item.bytes x.echo x.delivery (step_for item x)
  step_facts = any_step x.state item.board item.bytes x.echo x.delivery

  out_long : OpenFor x → length (step_for item x).out ≡ length x.echo
  out_long h = (stays x.state item.board item.bytes x.echo x.delivery h.ready.sound).out

-- ---- the three buffers

abbrev pub echo_held : Emptied → Option (List ℕ)
echo_held x = record_in x.answer.echo_length x.echo

abbrev pub vote_held : Emptied → Option (List ℕ)
vote_held x = record_in x.answer.vote_length x.vote

abbrev pub delivery_held : Emptied → Option (Option (List ℕ))
delivery_held x = delivered_in x.answer.delivery x.answer.message_length x.delivery

-- what a buffer e holds with len bytes before, once w of l bytes is filed there, or is not
filed_in : (c : Bool) (l len : ℕ) (w e : List ℕ) → record_in (pick c l len) (pick c (put 0 w e) e) ≡ pick c (record_in l (put 0 w e)) (record_in len e)
unfolding pick
filed_in true l len w e = refl
filed_in false l len w e = refl

module _ (i : ℕ) (item : Item) (x : Emptied) (h : OpenFor x) where
  abbrev z : Outcome
  z = step_for item x

  echo_is : echo_held (handed i item x) ≡ pick (is_put 2 z) (put_in z) (echo_held x)
  unfolding handed filed
  echo_is =
      filed_in (is_put 2 z) z.answer.record_length x.answer.echo_length (put_out_by z) x.echo
      ∙ ap (λ (o : Option (List ℕ)). pick (is_put 2 z) o (echo_held x))
      (placed z.answer.record_length z.out x.echo (omega (arith, (step_facts item x).short, out_long item x h, h.ready.out))
      (omega (arith, (step_facts item x).short, h.ready.out)))

  vote_is : vote_held (handed i item x) ≡ pick (is_put 3 z) (put_in z) (vote_held x)
  unfolding handed filed pick
  vote_is = filed_in (is_put 3 z) z.answer.record_length x.answer.vote_length (put_out_by z) x.vote ∙ go (is_put 3 z) refl
    where
      go : (c : Bool) → is_put 3 z ≡ c → pick c (record_in z.answer.record_length (put 0 (put_out_by z) x.vote)) (vote_held x) ≡ pick c (put_in z) (vote_held x)
      go true e = ap (λ (o : Option (List ℕ)). pick true o (vote_held x))
          (placed z.answer.record_length z.out x.vote (omega (arith, (step_facts item x).short, out_long item x h, h.ready.out))
          (omega (arith, (step_facts item x).vote_short e, h.vote)))
      go false e = refl

  delivery_is : delivery_held (handed i item x) ≡ pick (delivers z) (given_in z) (delivery_held x)
  unfolding handed filed pick
  delivery_is = go (delivers z) refl
    where
      go : (c : Bool) → delivers z ≡ c
          → delivered_in (pick c z.answer.delivery x.answer.delivery) (pick c z.answer.message_length x.answer.message_length) z.delivery
          ≡ pick c (given_in z) (delivery_held x)
      go true e = refl
      go false e = ap (delivered_in x.answer.delivery x.answer.message_length) ((step_facts item x).kept e)

hits : {R : Type 0} (c : Bool) (a b : R) (o : R) → o ≡ pick c a b → c ≡ true → o ≡ a
unfolding pick
hits true a b o e h = e
hits false a b o e h = never h

misses : {R : Type 0} (c : Bool) (a b : R) (o : R) → o ≡ pick c a b → c ≡ false → o ≡ b
unfolding pick
misses true a b o e h = never (sym h)
misses false a b o e h = e

pub echo_slot : Slot (λ (m : Marks). m.acquired) (is_put 2) put_in echo_held
echo_slot = record {
  once = echo_steps;
  hit = λ i item x h e. hits (is_put 2 (step_for item x)) _ _ _ (echo_is i item x h) e;
  miss = λ i item x h e. misses (is_put 2 (step_for item x)) _ _ _ (echo_is i item x h) e;
}

pub vote_slot : Slot (λ (m : Marks). m.voted) (is_put 3) put_in vote_held
vote_slot = record {
  once = vote_steps;
  hit = λ i item x h e. hits (is_put 3 (step_for item x)) _ _ _ (vote_is i item x h) e;
  miss = λ i item x h e. misses (is_put 3 (step_for item x)) _ _ _ (vote_is i item x h) e;
}

pub delivery_slot : Slot (λ (m : Marks). m.done) delivers given_in delivery_held
delivery_slot = record {
  once = delivery_steps;
  hit = λ i item x h e. hits (delivers (step_for item x)) _ _ _ (delivery_is i item x h) e;
  miss = λ i item x h e. misses (delivers (step_for item x)) _ _ _ (delivery_is i item x h) e;
}

-- ---- what is put out is filed as an echo or as a vote

none_put : (y : Outcome) → y.answer.record_length ≡ 0 → put_in y ≡ none
none_put y e = ap (λ (l : ℕ). record_in l y.out) e

pub filed_as : (i : ℕ) (items : List Item) (x : Emptied) (ρ : List ℕ) → PutIn i items x ρ
    → DoesIn (is_put 2) put_in i items x (some ρ) ⊎ DoesIn (is_put 3) put_in i items x (some ρ)
filed_as i [] x ρ n = absurd n
filed_as i (item ∷ rest) x ρ (inl e) = elim (step_facts item x).kinds [
  | inl q ↦ none_some ρ (sym (none_put (step_for item x) q) ∙ e)
  | inr (inl q) ↦ inl (inl (q, e))
  | inr (inr q) ↦ inr (inl (q, e))
]
filed_as i (item ∷ rest) x ρ (inr p) = elim (filed_as (i + 1) rest (handed i item x) ρ p) [ inl q ↦ inl (inr q) | inr q ↦ inr (inr q) ]

pub put_by : (does : Outcome → Bool) (i : ℕ) (items : List Item) (x : Emptied) (ρ : List ℕ) → DoesIn does put_in i items x (some ρ) → PutIn i items x ρ
put_by does i [] x ρ n = absurd n
put_by does i (item ∷ rest) x ρ (inl (e, q)) = inl q
put_by does i (item ∷ rest) x ρ (inr p) = inr (put_by does (i + 1) rest (handed i item x) ρ p)

-- the same of deliveries
given_none : (y : Outcome) → delivers y ≡ false → given_in y ≡ none
given_none y e =
    let q : y.answer.delivery ≡ 0 = eqb-true y.answer.delivery 0 (not-false (eqb y.answer.delivery 0) e) in
    ap (λ (k : ℕ). delivered_in k y.answer.message_length y.delivery) q

pub delivered_as : (i : ℕ) (items : List Item) (x : Emptied) (d : Option (List ℕ)) → GaveIn i items x d → DoesIn delivers given_in i items x (some d)
delivered_as i [] x d n = absurd n
delivered_as i (item ∷ rest) x d (inl e) = inl (go (delivers (step_for item x)) refl, e)
  where
    go : (c : Bool) → delivers (step_for item x) ≡ c → delivers (step_for item x) ≡ true
    go true q = q
    go false q = none_some d (sym (given_none (step_for item x) q) ∙ e)
delivered_as i (item ∷ rest) x d (inr p) = inr (delivered_as (i + 1) rest (handed i item x) d p)

pub gave_by : (i : ℕ) (items : List Item) (x : Emptied) (d : Option (List ℕ)) → DoesIn delivers given_in i items x (some d) → GaveIn i items x d
gave_by i [] x d n = absurd n
gave_by i (item ∷ rest) x d (inl (e, q)) = inl q
gave_by i (item ∷ rest) x d (inr p) = inr (gave_by (i + 1) rest (handed i item x) d p)
