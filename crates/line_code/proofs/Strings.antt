-- The strings that are hashed are strings of bytes, where paths, fragments and messages are.
-- Assumes nothing.
use Prim.Native.Nat.{ℕ, ◌-◌, ◌*◌}
use mathlib.Core.Bool.{Bool, true, false}
use mathlib.Core.Path.{◌≡◌, refl}
use mathlib.Core.List.{List, [], ◌∷◌, ◌++◌, Memᴰ}
use mathlib.Core.Option.{Option, some, none}
use native.Mathlib.Omega.{arith}
use lib.Dec.{ltb, eqb}
use lib.ListN.{length, get_or, take}
use Rattle.octets.specs.Bytes.{pick}
use Rattle.table.specs.Table.{k_of}
use Rattle.table.specs.declared.Table.{Table}
use Rattle.sha256.specs.Sha256.{sha256}
use Rattle.tree.specs.Tree.{Tree, tip, fork, tree_of, depth, root, climb, leaf_hash, node_hash}
use Rattle.tree.specs.Check.{node_of}
use Rattle.tree.specs.Strings.{hashed, climbed, check_strings, tree_strings}
use Rattle.code.specs.Code.{All, Byte}
use Rattle.code.proofs.Lists.{all_append, part_bytes, byte_at}
use Rattle.code.proofs.Reading.{message_bytes}
use Rattle.code_encode.specs.Message.{fragment_for}
use Rattle.code_through.specs.Through.{marks, block_through}
use Rattle.deliver.specs.Delivered.{read_from}
use Rattle.deliver.proofs.Results.{read_why}
use Rattle.line_code.specs.Parts.{encoding_strings, fresh_strings}
use Rattle.line_code.proofs.Encodings.{fragment_bytes, hash_bytes, node_bytes}
use Rattle.line_code.proofs.Results.{block_bytes}

-- each of the strings is one of bytes
abbrev pub Strings : List (List ℕ) → Type 0
Strings = All (All Byte)

pub string_bytes : (xs : List (List ℕ)) → Strings xs → (y : List ℕ) → Memᴰ y xs → All Byte y
string_bytes [] h y m = elim m [ ]
string_bytes (x ∷ xs) h y (Memᴰ.head e) = rw e h.0
string_bytes (x ∷ xs) h y (Memᴰ.tail m) = string_bytes xs h.1 y m

pub picked : (c : Bool) (xs ys : List (List ℕ)) → Strings xs → Strings ys → Strings (pick c xs ys)
unfolding pick
picked true xs ys h g = h
picked false xs ys h g = g

pub joined : (xs ys : List (List ℕ)) → Strings xs → Strings ys → Strings (xs ++ ys)
joined [] ys h g = g
joined (x ∷ xs) ys h g = (h.0, joined xs ys h.1 g)

-- ---- a path check

climb_bytes : (ps : ℕ → List ℕ) (t : Tree) (i : ℕ) (f : List ℕ) → All Byte (climb sha256 ps t i f)
unfolding climb leaf_hash node_hash pick
climb_bytes ps (tip j) i f = hash_bytes _
climb_bytes ps (fork k l r) i f = go (ltb i k)
  where
    go : (c : Bool) → All Byte (pick c (node_hash sha256 (climb sha256 ps l i f) (ps (depth l i))) (node_hash sha256 (ps (depth r i)) (climb sha256 ps r i f)))
    go true = hash_bytes _
    go false = hash_bytes _

climbed_bytes : (ps : ℕ → List ℕ) → ((j : ℕ) → All Byte (ps j)) → (t : Tree) (i : ℕ) (f : List ℕ) → All Byte f → Strings (climbed sha256 ps t i f)
unfolding climbed
climbed_bytes ps hp (tip j) i f h = ((omega arith, h), tt)
climbed_bytes ps hp (fork k l r) i f h =
    picked (ltb i k)
    ((1 ∷ (climb sha256 ps l i f ++ ps (depth l i))) ∷ climbed sha256 ps l i f) ((1 ∷ (ps (depth r i) ++ climb sha256 ps r i f)) ∷ climbed sha256 ps r i f)
    ((omega arith, all_append Byte (climb sha256 ps l i f) (ps (depth l i)) (climb_bytes ps l i f) (hp (depth l i))), climbed_bytes ps hp l i f h)
    ((omega arith, all_append Byte (ps (depth r i)) (climb sha256 ps r i f) (hp (depth r i)) (climb_bytes ps r i f)), climbed_bytes ps hp r i f h)

pub check_bytes : (n i : ℕ) (p f : List ℕ) → All Byte p → All Byte f → Strings (check_strings n i p f)
unfolding check_strings node_of
check_bytes n i p f hp hf =
    picked (eqb (length p) (32 * depth (tree_of n) (i - 1))) (climbed sha256 (node_of p) (tree_of n) (i - 1) f) []
    (climbed_bytes (node_of p) (λ j. part_bytes (32 * j) 32 p hp) (tree_of n) (i - 1) f hf) tt

-- ---- an encoding

hashed_bytes : (fs : ℕ → List ℕ) → ((i : ℕ) → All Byte (fs i)) → (t : Tree) → Strings (hashed sha256 fs t)
unfolding hashed
hashed_bytes fs h (tip i) = ((omega arith, h i), tt)
hashed_bytes fs h (fork k l r) = (
  (omega arith, all_append Byte (root sha256 fs l) (root sha256 fs r) (node_bytes fs l) (node_bytes fs r)),
  joined (hashed sha256 fs l) (hashed sha256 fs r) (hashed_bytes fs h l) (hashed_bytes fs h r),
)

pub encoding_bytes : (b : Table) (m : List ℕ) → All Byte m → Strings (tree_strings b.n (fragment_for b m))
unfolding tree_strings
encoding_bytes b m h = hashed_bytes (fragment_for b m) (λ i. fragment_bytes b m i h) (tree_of b.n)

-- of the message that is read from fragments that are bytes
pub fresh_bytes : (b : Table) (set : ℕ) (F : ℕ → List ℕ) → ((i : ℕ) → All Byte (F i)) → Strings (fresh_strings b set F)
unfolding fresh_strings encoding_strings
fresh_bytes b set F h = go (read_from b xs F) refl
  where
    xs : List ℕ
    xs = take (k_of b) (marks 1 b.n set)

    go : (o : Option (List ℕ)) → read_from b xs F ≡ o → Strings (encoding_strings b o)
    go none e = tt
    go (some m) e =
        let w = message_bytes (block_through (length (F (get_or xs 0 0))) xs F) (block_bytes xs F (λ i l d. byte_at (F (get_or xs i 0)) (h (get_or xs i 0)) d) (length (F (get_or xs 0 0)))) in
        encoding_bytes b m (rw (read_why b xs F m e).message at w)
