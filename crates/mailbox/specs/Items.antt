-- Document 02, request 1: a mailbox, "a count (two bytes, 0 to 255) and then, for each item, the sending board (one byte), a length (two bytes)
-- and the record". Numbers are high byte first.
use Rattle.std.specs.Prelude.{ℕ, zero, suc, ◌+◌, List, [], ◌∷◌, Bool, ◌&&◌, length, get_or, leb, eqb}
use Rattle.octets.specs.Bytes.{part, two_at}

-- an item: "the sending board" and "the record"
pub record Item : Type 0 where
  pub board : ℕ
  pub bytes : List ℕ

-- "a count (two bytes ..)"
abbrev pub count_of : List ℕ → ℕ
count_of box = two_at box 0

-- where the item that begins at a ends: a board's byte, two of length, and the record
abbrev pub end_of : List ℕ → ℕ → ℕ
end_of box a = a + 3 + two_at box (a + 1)

-- the item that begins at a
abbrev pub item_at : List ℕ → ℕ → Item
item_at box a = record { board = get_or box a 0; bytes = part (a + 3) (two_at box (a + 1)) box }

-- whether m items that begin at a are there, none cut off, with no byte after the last
unfoldable pub complete : ℕ → ℕ → List ℕ → Bool
complete zero a box = eqb a (length box)
complete (suc m) a box = leb (end_of box a) (length box) && complete m (end_of box a) box

-- these items
unfoldable pub items_from : ℕ → ℕ → List ℕ → List Item
items_from zero a box = []
items_from (suc m) a box = item_at box a ∷ items_from m (end_of box a) box

-- whether the framing is whole; where it is not, it "is broken", which is 16
unfoldable pub framed : List ℕ → Bool
framed box = leb 2 (length box) && (leb (count_of box) 255 && complete (count_of box) 2 box)

-- the items of a mailbox
unfoldable pub items_of : List ℕ → List Item
items_of box = items_from (count_of box) 2 box
