-- The items, one after the other.
use mathlib.Core.Path.{◌≡◌, refl, ap, ◌∙◌}
use Prim.Native.Nat.{ℕ, zero, ◌+◌, ◌-◌, ◌≤◌, ◌<◌}
use mathlib.Core.List.{List, [], ◌∷◌}
use mathlib.Core.Bool.{Bool, true, false}
use native.Mathlib.Omega.{arith}
use native.Mathlib.Nat.{sub-zero}
use lib.ListN.{length, get_or, take, drop}
use Rattle.octets.specs.Bytes.{pick, part, put, two_at}
use Rattle.octets.proofs.Laws.{length_put}
use Rattle.board_step.specs.Step.{Outcome, step_of}
use Rattle.board_step.proofs.Outcomes.{Stays, stays}
use Rattle.mailbox.specs.Items.{Item, count_of, end_of, item_at, complete, items_from, framed, items_of}
use Rattle.mailbox.proofs.Framing.{item_whole, items_next, framed_whole}
use Rattle.board_mailbox.specs.Asked.{Open}
use Rattle.board_mailbox.specs.Emptied.{Emptied, put_out_by, is_put, filed, handed, handed_all}

-- the buffers of x are as long as those of y
pub record AsLong (x y : Emptied) : Type 0 where
  pub state : length x.state ≡ length y.state
  pub answers : length x.answers ≡ length y.answers
  pub echo : length x.echo ≡ length y.echo
  pub vote : length x.vote ≡ length y.vote
  pub delivery : length x.delivery ≡ length y.delivery

abbrev pub OpenFor : Emptied → Type 0
OpenFor x = Open x.state x.echo x.vote x.delivery

filed_length : (b : Bool) (w o : List ℕ) → length (pick b (put 0 w o) o) ≡ length o
unfolding pick
filed_length true w o = length_put 0 w o
filed_length false w o = refl

module _ (i : ℕ) (item : Item) (x : Emptied) (h : OpenFor x) where
  abbrev y : Outcome
  y = step_of x.state item.board item.bytes x.echo x.delivery

  kept : Stays x.state x.echo x.delivery y.state y.out y.delivery
  kept = stays x.state item.board item.bytes x.echo x.delivery h.ready.sound

  pub handed_long : AsLong (handed i item x) x
  unfolding handed filed
  handed_long = record {
    state = kept.size;
    answers = length_put i (y.answer.number ∷ []) x.answers;
    echo = filed_length (is_put 2 y) (put_out_by y) x.echo;
    vote = filed_length (is_put 3 y) (put_out_by y) x.vote;
    delivery = kept.delivery;
  }

  -- a step leaves a sound state sound, so the next item need not look
  pub handed_open : OpenFor (handed i item x)
  unfolding handed filed
  handed_open =
      let l = handed_long in
      record {
        ready = record {
          long = rw kept.size h.ready.long;
          sound = kept.still_sound;
          room = rw (kept.table, kept.size) h.ready.room;
          out = rw l.echo h.ready.out;
          delivery = rw (kept.table, kept.delivery) h.ready.delivery;
        };
        vote = rw l.vote h.vote;
      }

-- where the loop stands: at item i, which begins at a, with x left so far, of what was first there
pub record Walk (box : List ℕ) (first : Emptied) (count a i : ℕ) (x : Emptied) : Type 0 where
  pub opened : OpenFor x
  pub few : i ≤ count
  pub long : AsLong x first
  pub rest : complete (count - i) a box ≡ true
  pub same : handed_all i (items_from (count - i) a box) x ≡ handed_all 0 (items_of box) first

pub walk_start : (box : List ℕ) (first : Emptied) (count : ℕ) → OpenFor first → framed box ≡ true → count ≡ count_of box → Walk box first count 2 0 first
unfolding items_of
walk_start box first count o f e = record {
  opened = o;
  few = omega arith;
  long = record { state = refl; answers = refl; echo = refl; vote = refl; delivery = refl };
  rest = rw (sub-zero, e) (framed_whole box f).2;
  same = rw (sub-zero, e);
}

module _ (box : List ℕ) (first : Emptied) (count a i : ℕ) (x : Emptied) (w : Walk box first count a i x) where
  pub walk_end : count ≤ i → x ≡ handed_all 0 (items_of box) first
  unfolding items_from handed_all
  walk_end h = let z : count - i ≡ zero = omega arith in rw z at w.same

  -- the record of an item, as a part of the mailbox
  the_item : (from len : ℕ) → from ≡ get_or box a 0 → len ≡ two_at box (a + 1)
      → ◌≡◌ {A = Item} (record { board = from; bytes = take (a + 3 + len - (a + 3)) (drop (a + 3) box) }) (item_at box a)
  unfolding part
  the_item from len ef el = let z : a + 3 + len - (a + 3) ≡ len = omega arith in rw (z, ef, el)

  module _ (h : i < count) where
    pub ends : end_of box a ≤ length box
    ends = (item_whole box count i a h w.rest).0

    pub walk_next : (from len : ℕ) (y : Emptied) → from ≡ get_or box a 0 → len ≡ two_at box (a + 1)
        → y ≡ handed i (record { board = from; bytes = take (a + 3 + len - (a + 3)) (drop (a + 3) box) }) x → Walk box first count (a + 3 + len) (i + 1) y
    unfolding handed_all
    walk_next from len y ef el ey =
        let e : y ≡ handed i (item_at box a) x = ey ∙ ap (λ (t : Item). handed i t x) (the_item from len ef el) in
        let l = handed_long i (item_at box a) x w.opened in
        rw (e, el) (record {
          opened = handed_open i (item_at box a) x w.opened;
          few = omega arith;
          long = record {
            state = l.state ∙ w.long.state;
            answers = l.answers ∙ w.long.answers;
            echo = l.echo ∙ w.long.echo;
            vote = l.vote ∙ w.long.vote;
            delivery = l.delivery ∙ w.long.delivery;
          };
          rest = (item_whole box count i a h w.rest).1;
          same = rw (items_next box count i a h) at w.same;
        })
