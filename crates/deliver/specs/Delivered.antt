-- Document 01, "A board's step": what a board delivers in the output stage.
use Rattle.std.specs.Prelude.{Option as Maybe, Some, None, Bool, true, ◌&&◌, List, [], ◌∷◌, ℕ, eqb, length, get_or, take}
use Rattle.std.proofs.Math.Option.{Option, none, some}
use Rattle.octets.specs.Bytes.{pick, put, same}
use Rattle.table.specs.Table.{k_of}
use Rattle.table.specs.declared.Table.{Table}
use Rattle.code.specs.Block.{readable, block_message}
use Rattle.code_encode.specs.Message.{fragment_for}
use Rattle.code_through.specs.Through.{marks, block_through}
use Rattle.tree.specs.Tree.{root_of}
use Rattle.deliver.specs.declared.Delivery.{Delivery}
use Rattle.deliver.specs.declared.Delivery.TheVariants.{Message, Void}

-- "Unequal lengths .. are void too": whether the fragments of the boards xs all have len bytes
unfoldable pub all_of_length : ℕ → List ℕ → (ℕ → List ℕ) → Bool
all_of_length len [] fragment = true
all_of_length len (x ∷ xs) fragment = eqb (length (fragment x)) len && all_of_length len xs fragment

-- "read the block": the message that stands in it, if it can be read
unfoldable pub block_read : Table → List ℕ → Option (List ℕ)
block_read b block = pick (readable (k_of b) b.longest block) (some (block_message block)) none

-- "rebuild from the k lowest-numbered ones; read the block": the boards xs; "Unequal lengths or an unreadable block" give none
unfoldable pub read_from : Table → List ℕ → (ℕ → List ℕ) → Option (List ℕ)
read_from b xs fragment =
    let len = length (fragment (get_or xs 0 0)) in
    pick (all_of_length len xs fragment) (block_read b (block_through len xs fragment)) none

-- "encode the message afresh; if the new root is the same, deliver the message, else deliver void": none is void
unfoldable pub afresh : Table → List ℕ → Option (List ℕ) → Option (List ℕ)
afresh b root none = none
afresh b root (some m) = pick (same (root_of b.n (fragment_for b m)) root) (some m) none

-- what is delivered from the boards xs
unfoldable pub result_from : Table → List ℕ → List ℕ → (ℕ → List ℕ) → Option (List ℕ)
result_from b root xs fragment = afresh b root (read_from b xs fragment)

-- the same from a set of boards: board i is bit i - 1
unfoldable pub result_of : Table → List ℕ → ℕ → (ℕ → List ℕ) → Option (List ℕ)
result_of b root set fragment = result_from b root (take (k_of b) (marks 1 b.n set)) fragment

-- what is left: the delivery's kind (0 none, 1 a message, 2 void), the message's length, the delivery buffer
pub record Left : Type 0 where
  pub kind : ℕ
  pub size : ℕ
  pub buffer : List ℕ

abbrev pub kind_of : Maybe Delivery → ℕ
kind_of None = 0
kind_of (Some (Message n)) = 1
kind_of (Some Void) = 2

abbrev pub size_of : Maybe Delivery → ℕ
size_of None = 0
size_of (Some (Message n)) = n
size_of (Some Void) = 0

abbrev pub left : Maybe Delivery → List ℕ → Left
left d out = record { kind = kind_of d; size = size_of d; buffer = out }

-- "Void" leaves the buffer; a message is put at its front
unfoldable pub left_by : Option (List ℕ) → List ℕ → Left
left_by none out = record { kind = 2; size = 0; buffer = out }
left_by (some m) out = record { kind = 1; size = length m; buffer = put 0 m out }
