-- Why a mailbox is refused.
use mathlib.Core.Path.{◌≡◌, refl, sym, ◌∙◌}
use Prim.Native.Nat.{ℕ, zero, suc, ◌≤◌}
use mathlib.Core.List.{List}
use mathlib.Core.Bool.{true, not, ◌||◌}
use borrow.Author.Tests.{ltb-false}
use lib.Dec.{ltb}
use lib.ListN.{length}
use Rattle.octets.specs.Bytes.{pick}
use Rattle.octets.proofs.Picks.{none_applies, or_none_l, or_none_r, not_none}
use Rattle.record.specs.Form.{vote_bytes}
use Rattle.mailbox.specs.Items.{count_of, framed, items_of}
use Rattle.board.specs.Planned.{after_buffers}
use Rattle.board.proofs.Buffers.{ready, refused_before, passed_before}
use Rattle.board_mailbox.specs.Asked.{Open}
use Rattle.board_mailbox.specs.Emptied.{only_number, emptied, handed_all, mailbox_refusal, mailbox_by, mailbox_of}

module _ (s box a e v d : List ℕ) (q : ℕ) (first : q ≡ after_buffers s (length e) (length d) (λ (r : ℕ). r) 0) where
  -- by the state and the buffers of a step
  pub first_applies : (q ≡ 0 → ⊥) → q ≡ mailbox_refusal s box a e v d
  unfolding mailbox_refusal
  first_applies n = refused_before (λ (r : ℕ). r) _ q s (length e) (length d) first n

  -- by what is looked at after these
  pub later_applies : q ≡ 0 → (x : ℕ) → x ≡ pick (ltb (length v) vote_bytes) 2 (pick (not (framed box) || ltb (length a) (count_of box)) 16 0) → x ≡ mailbox_refusal s box a e v d
  unfolding mailbox_refusal
  later_applies z x h = h ∙ passed_before (λ (r : ℕ). r) _ q s (length e) (length d) first z

module _ (s box a e v d : List ℕ) where
  -- a mailbox that is not refused: nothing before the items is amiss
  pub none_refused : mailbox_refusal s box a e v d ≡ 0 → Open s e v d × ((framed box ≡ true) × (count_of box ≤ length a))
  unfolding mailbox_refusal
  none_refused h =
      let (r, h1) = ready s (length e) (length d) _ h in
      let h2 = none_applies (ltb (length v) vote_bytes) 1 _ h1 in
      let h3 = none_applies (not (framed box) || ltb (length a) (count_of box)) 15 0 h2.1 in (
        record { ready = r; vote = ltb-false (length v) vote_bytes h2.0 },
        (
          not_none (framed box) (or_none_l (not (framed box)) (ltb (length a) (count_of box)) h3.0),
          ltb-false (length a) (count_of box) (or_none_r (not (framed box)) (ltb (length a) (count_of box)) h3.0),
        ),
      )

  by_number : (q : ℕ) → (q ≡ 0 → ⊥) → emptied (only_number q) s a e v d ≡ mailbox_by q s box a e v d
  unfolding mailbox_by
  by_number zero n = absurd (n refl)
  by_number (suc q) n = refl

  pub refused_box : (q : ℕ) → q ≡ mailbox_refusal s box a e v d → (q ≡ 0 → ⊥) → emptied (only_number q) s a e v d ≡ mailbox_of s box a e v d
  unfolding mailbox_of
  refused_box q h n = rw (← h) (by_number q n)

  pub taken_box : (q : ℕ) → q ≡ mailbox_refusal s box a e v d → q ≡ 0 → handed_all 0 (items_of box) (emptied (only_number 0) s a e v d) ≡ mailbox_of s box a e v d
  unfolding mailbox_of mailbox_by
  taken_box q h z = rw (sym h ∙ z)
