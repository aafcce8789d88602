-- The items of a mailbox, one after the other.
use mathlib.Core.Path.{◌≡◌, ◌∙◌}
use Prim.Native.Nat.{ℕ, zero, suc, ◌+◌, ◌-◌, ◌≤◌, ◌<◌}
use mathlib.Core.List.{List, ◌∷◌}
use mathlib.Core.Bool.{true, false, ◌&&◌}
use native.Mathlib.Omega.{arith}
use borrow.Author.Tests.{le-leb, lt-leb, leb-true}
use lib.ListN.{length}
use lib.Dec.{leb, eqb}
use Rattle.octets.proofs.Picks.{and_l, and_r}
use Rattle.mailbox.specs.Items.{count_of, end_of, item_at, complete, items_from, framed}

module _ (box : List ℕ) (m i a : ℕ) where
  more : i < m → m - i ≡ suc (m - (i + 1))
  more h = omega arith

  -- the next item, and those after it
  complete_on : i < m → complete (m - i) a box ≡ leb (end_of box a) (length box) && complete (m - (i + 1)) (end_of box a) box
  unfolding complete
  complete_on h = rw (more h)

  pub complete_next : i < m → end_of box a ≤ length box → complete (m - i) a box ≡ complete (m - (i + 1)) (end_of box a) box
  complete_next h l = complete_on h ∙ rw (le-leb (end_of box a) (length box) l)

  -- it is cut off
  pub complete_cut : i < m → length box < end_of box a → complete (m - i) a box ≡ false
  complete_cut h l = complete_on h ∙ rw (lt-leb (end_of box a) (length box) l)

  -- no further item
  pub complete_last : m ≤ i → complete (m - i) a box ≡ eqb a (length box)
  unfolding complete
  complete_last h = let e : m - i ≡ zero = omega arith in rw e

  -- what a whole framing gives, item by item
  pub item_whole : i < m → complete (m - i) a box ≡ true → (end_of box a ≤ length box) × (complete (m - (i + 1)) (end_of box a) box ≡ true)
  item_whole h e =
      let g : leb (end_of box a) (length box) && complete (m - (i + 1)) (end_of box a) box ≡ true = rw (complete_on h) at e in
      (leb-true (end_of box a) (length box) (and_l _ _ g), and_r (leb (end_of box a) (length box)) _ g)

  pub items_next : i < m → items_from (m - i) a box ≡ item_at box a ∷ items_from (m - (i + 1)) (end_of box a) box
  unfolding items_from
  items_next h = rw (more h)

-- a mailbox of which the count is whole and at most 255
pub framed_by : (box : List ℕ) (count : ℕ) → 2 ≤ length box → count ≡ count_of box → count ≤ 255 → complete count 2 box ≡ framed box
unfolding framed
framed_by box count h e l = rw (← e, le-leb 2 (length box) h, le-leb count 255 l)

pub framed_many : (box : List ℕ) (count : ℕ) → 2 ≤ length box → count ≡ count_of box → 255 < count → false ≡ framed box
unfolding framed
framed_many box count h e l = rw (← e, le-leb 2 (length box) h, lt-leb count 255 l)

-- what a whole framing gives
pub framed_whole : (box : List ℕ) → framed box ≡ true → (2 ≤ length box) × (count_of box ≤ 255) × (complete (count_of box) 2 box ≡ true)
unfolding framed
framed_whole box e =
    let h = and_r (leb 2 (length box)) _ e in
    (leb-true 2 (length box) (and_l _ _ e), leb-true (count_of box) 255 (and_l _ _ h), and_r (leb (count_of box) 255) _ h)
