-- One mailbox, emptied by a board that keeps the rules: what it leaves, puts out and delivers is what its items do, handed over singly.
use Prim.Native.Nat.{ℕ, zero, suc, ◌+◌, ◌≤◌}
use native.Mathlib.Omega.{arith}
use mathlib.Core.Bool.{Bool, true, false}
use mathlib.Core.Path.{◌≡◌, refl, subst, sym, ◌∙◌, ap}
use mathlib.Core.Logic.{◌⊎◌, inl, inr}
use mathlib.Core.List.Memᴰ
use mathlib.Core.List.{List, [], ◌∷◌, ◌++◌, Memᴰ}
use mathlib.Core.Option.{Option, some, none}
use borrow.Author.Tests.{ne_eqb}
use lib.ListN.{length}
use Rattle.octets.specs.Bytes.{pick, two_at}
use Rattle.record.specs.Form.{out_bytes}
use Rattle.code.specs.Code.{All, Byte}
use Rattle.code.proofs.Lists.{part_bytes}
use Rattle.mailbox.specs.Items.{Item, count_of, end_of, items_from, items_of}
use Rattle.board_mailbox.specs.Emptied.{Emptied, only_number, emptied, filed, handed, handed_all, is_put, delivers, mailbox_refusal, mailbox_by, mailbox_of}
use Rattle.board_mailbox.proofs.Refusals.{none_refused}
use Rattle.board_mailbox.proofs.Walk.{OpenFor}
use Rattle.line.specs.Bytes.{bytes}
use Rattle.line.proofs.Tests.{none_some}
use Rattle.line_code.proofs.ByteLaws.{all_bytes, bytes_all}
use Rattle.line_desk.specs.Desk.{Desk, put_in}
use Rattle.line_demand.specs.Boards.{given_in}
use Rattle.line_mailbox.specs.Polls.{Trays, emptied_to, one_of, records_in, poll_puts, poll_gives, items_taken}
use Rattle.line_mailbox.proofs.Items.{AllBytes, PutIn, GaveIn}
use Rattle.line_mailbox.proofs.Slots.{DoesIn, stands, stands_why}
use Rattle.line_mailbox.proofs.Filed.{echo_held, vote_held, delivery_held, echo_slot, vote_slot, delivery_slot, filed_as, put_by, delivered_as, gave_by}

-- ---- the items of a string of bytes

items_bytes : (m a : ℕ) (box : List ℕ) → All Byte box → AllBytes (items_from m a box)
unfolding items_from
items_bytes zero a box h = tt
items_bytes (suc m) a box h = (all_bytes _ (part_bytes (a + 3) (two_at box (a + 1)) box h), items_bytes m (end_of box a) box h)

all_items : (box : List ℕ) → bytes box ≡ true → AllBytes (items_of box)
unfolding items_of
all_items box e = items_bytes (count_of box) 2 box (bytes_all box e)

-- ---- the call's number stays

number_on : (i : ℕ) (item : Item) (x : Emptied) → (handed i item x).answer.number ≡ x.answer.number
unfolding handed filed
number_on i item x = refl

number_kept : (i : ℕ) (items : List Item) (x : Emptied) → (handed_all i items x).answer.number ≡ x.answer.number
unfolding handed_all
number_kept i [] x = refl
number_kept i (item ∷ rest) x = number_kept (i + 1) rest (handed i item x) ∙ number_on i item x

-- ---- what stands in the buffers at the end

module _ (items : List Item) (x : Emptied) (h : OpenFor x) (no_echo : echo_held x ≡ none) (no_vote : vote_held x ≡ none) (no_delivery : delivery_held x ≡ none) where
  abbrev X : Emptied
  X = handed_all 0 items x

  one_in : {R : Type 0} (o : Option R) (a : R) → Memᴰ a (one_of o) → o ≡ some a
  one_in none a m = elim m [ ]
  one_in (some y) a (Memᴰ.head e) = ap some (sym e)
  one_in (some y) a (Memᴰ.tail m) = elim m [ ]

  in_one : {R : Type 0} (o : Option R) (a : R) → o ≡ some a → Memᴰ a (one_of o)
  in_one none a e = none_some a e
  in_one (some y) a e = let q : y ≡ a = cc in Memᴰ.head (sym q)

  in_both : (xs ys : List (List ℕ)) (a : List ℕ) → Memᴰ a (xs ++ ys) → Memᴰ a xs ⊎ Memᴰ a ys
  in_both [] ys a m = inr m
  in_both (y ∷ xs) ys a (Memᴰ.head e) = inl (Memᴰ.head e)
  in_both (y ∷ xs) ys a (Memᴰ.tail m) = elim (in_both xs ys a m) [ inl q ↦ inl (Memᴰ.tail q) | inr q ↦ inr q ]

  pub records_of : (ρ : List ℕ) → PutIn 0 items x ρ → Memᴰ ρ (records_in X)
  records_of ρ p = elim (filed_as 0 items x ρ p) [
    | inl q ↦ Memᴰ.append_left _ (in_one (echo_held X) ρ (stands echo_slot 0 items x h (some ρ) q))
    | inr q ↦ Memᴰ.append_right (one_of (echo_held X)) (in_one (vote_held X) ρ (stands vote_slot 0 items x h (some ρ) q))
  ]

  pub records_why : (ρ : List ℕ) → Memᴰ ρ (records_in X) → PutIn 0 items x ρ
  records_why ρ m = elim (in_both (one_of (echo_held X)) (one_of (vote_held X)) ρ m) [
    | inl q ↦ (let e = one_in (echo_held X) ρ q in elim (stands_why echo_slot 0 items x h) [
      | inl z ↦ none_some ρ (sym no_echo ∙ sym z ∙ e)
      | inr p ↦ put_by (is_put 2) 0 items x ρ (subst (DoesIn (is_put 2) put_in 0 items x) e p)
    ])
    | inr q ↦ (let e = one_in (vote_held X) ρ q in elim (stands_why vote_slot 0 items x h) [
      | inl z ↦ none_some ρ (sym no_vote ∙ sym z ∙ e)
      | inr p ↦ put_by (is_put 3) 0 items x ρ (subst (DoesIn (is_put 3) put_in 0 items x) e p)
    ])
  ]

  pub delivery_of : (d : Option (List ℕ)) → GaveIn 0 items x d → delivery_held X ≡ some d
  delivery_of d p = stands delivery_slot 0 items x h (some d) (delivered_as 0 items x d p)

  pub delivery_why : (d : Option (List ℕ)) → delivery_held X ≡ some d → GaveIn 0 items x d
  delivery_why d e = elim (stands_why delivery_slot 0 items x h) [
    | inl z ↦ none_some d (sym no_delivery ∙ sym z ∙ e)
    | inr p ↦ gave_by 0 items x d (subst (DoesIn delivers given_in 0 items x) e p)
  ]

-- ---- the call

-- what a mailbox comes to, for a board that holds d: the items that it takes, from x on
pub record Emptying (d : Desk) (box : List ℕ) (t : Trays) : Type 0 where
  pub items : List Item
  pub from : Emptied
  pub taken : items_taken (some d) box t ≡ items
  pub of_bytes : AllBytes items
  pub state : from.state ≡ d.state
  pub delivery : from.delivery ≡ d.delivery
  pub echo : out_bytes ≤ length from.echo
  pub after : emptied_to (some d) box t ≡ some (record { state = (handed_all 0 items from).state; out = d.out; delivery = (handed_all 0 items from).delivery })
  pub puts_of : (ρ : List ℕ) → PutIn 0 items from ρ → Memᴰ ρ (poll_puts (some d) box t)
  pub puts_why : (ρ : List ℕ) → Memᴰ ρ (poll_puts (some d) box t) → PutIn 0 items from ρ
  pub gives_of : (e : Option (List ℕ)) → GaveIn 0 items from e → poll_gives (some d) box t ≡ some e
  pub gives_why : (e : Option (List ℕ)) → poll_gives (some d) box t ≡ some e → GaveIn 0 items from e

no_member : {R D : Type 0} {a : R} → Memᴰ a [] → D
no_member m = elim m [ ]

module _ (d : Desk) (long : out_bytes ≤ length d.out) (box : List ℕ) (t : Trays) where
  -- nothing is taken
  abbrev still : Emptied
  still = emptied (only_number 0) d.state [] d.out [] d.delivery

  -- the call's beginning
  abbrev first : Emptied
  first = emptied (only_number 0) d.state t.answers t.echo t.vote d.delivery

  no_bytes : bytes box ≡ false → Emptying d box t
  unfolding items_taken emptied_to poll_puts poll_gives handed_all pick
  no_bytes e = record {
    items = [];
    from = still;
    taken = rw e;
    of_bytes = tt;
    state = refl;
    delivery = refl;
    echo = long;
    after = rw e;
    puts_of = λ ρ p. absurd p;
    puts_why = λ ρ m. no_member (rw e at m);
    gives_of = λ z p. absurd p;
    gives_why = λ z q. none_some z (rw e at q);
  }

  refused_call : bytes box ≡ true → (q : ℕ) → mailbox_refusal d.state box t.answers t.echo t.vote d.delivery ≡ suc q → Emptying d box t
  unfolding items_taken emptied_to poll_puts poll_gives mailbox_of mailbox_by handed_all pick
  refused_call e q h = record {
    items = [];
    from = still;
    taken = rw (e, h, ne_eqb (suc q) 0 (λ z. omega arith));
    of_bytes = tt;
    state = refl;
    delivery = refl;
    echo = long;
    after = rw (e, h);
    puts_of = λ ρ p. absurd p;
    puts_why = λ ρ m. no_member (rw (e, h) at m);
    gives_of = λ z p. absurd p;
    gives_why = λ z w. none_some z (rw (e, h) at w);
  }

  taken_call : bytes box ≡ true → mailbox_refusal d.state box t.answers t.echo t.vote d.delivery ≡ 0 → Emptying d box t
  unfolding items_taken emptied_to poll_puts poll_gives mailbox_of mailbox_by pick
  taken_call e h =
      let o = (none_refused d.state box t.answers t.echo t.vote d.delivery h).0 in
      record {
        items = items_of box;
        from = first;
        taken = rw (e, h, number_kept 0 (items_of box) first);
        of_bytes = all_items box e;
        state = refl;
        delivery = refl;
        echo = o.ready.out;
        after = rw (e, h);
        puts_of = λ ρ p. rw (e, h) (records_of (items_of box) first o refl refl refl ρ p);
        puts_why = λ ρ m. records_why (items_of box) first o refl refl refl ρ (rw (e, h) at m);
        gives_of = λ z p. rw (e, h) (delivery_of (items_of box) first o refl refl refl z p);
        gives_why = λ z w. delivery_why (items_of box) first o refl refl refl z (rw (e, h) at w);
      }

  by_number : bytes box ≡ true → (q : ℕ) → mailbox_refusal d.state box t.answers t.echo t.vote d.delivery ≡ q → Emptying d box t
  by_number e zero h = taken_call e h
  by_number e (suc q) h = refused_call e q h

  pub emptying : Emptying d box t
  emptying = go (bytes box) refl
    where
      go : (c : Bool) → bytes box ≡ c → Emptying d box t
      go true e = by_number e _ refl
      go false e = no_bytes e
