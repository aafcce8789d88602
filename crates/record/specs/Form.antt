-- Document 01, "Records": which bytes are a record, and where the others are at fault (document 02, request 2).
use Rattle.std.specs.Prelude.{◌≡◌, ℕ, ◌+◌, ◌*◌, ◌/◌, ◌%◌, ◌≤◌, List, ◌∷◌, ◌++◌, Bool, ◌&&◌, length, get_or, leb, eqb}
use Rattle.octets.specs.Bytes.{pick, two_at, two}
use Rattle.record.specs.declared.Written.{Written}

-- what reading a record finds: its form, that is its kind, the number of path nodes and that of fragment bytes; or the first field at fault: why,
-- by document 02's numbers, and where it starts
pub data Read : Type 0 where
  Form : ℕ → ℕ → ℕ → Read
  Fault : ℕ → ℕ → Read

-- "a field that the bytes end inside or before is cut off at that field's start": next, unless the bytes end before a + n
abbrev pub need : List ℕ → ℕ → ℕ → Read → Read
need s a n next = pick (leb (a + n) (length s)) next (Fault 20 a)

-- "fields are read left to right and the first fault counts": next, if the field at a passes its test
abbrev pub field : Bool → ℕ → ℕ → Read → Read
field ok why a next = pick ok next (Fault why a)

-- "a kind byte of 1, 2 or 3 is send, echo or vote; 0 and 4 to 255 are refused"
unfoldable pub is_kind : ℕ → Bool
is_kind k = leb 1 k && leb k 3

-- "send and echo: path count 0 to 6 .. vote: 0"
unfoldable pub nodes_most : ℕ → ℕ
nodes_most k = pick (eqb k 3) 0 6

-- "send and echo: fragment count 1 to 16,388; vote: 0"
unfoldable pub fragment_ok : ℕ → ℕ → Bool
fragment_ok k f = pick (eqb k 3) (eqb f 0) (leb 1 f && leb f 16388)

-- the third section, fragment (count of bytes), at a; "nothing follows the last section"
unfoldable pub parse_fragment : List ℕ → ℕ → ℕ → ℕ → Read
parse_fragment s k p a =
    need s a 2
    (field (fragment_ok k (two_at s a)) 24 a
    (need s (a + 2) (two_at s a)
    (field (leb (length s) (a + 2 + two_at s a)) 25 (a + 2 + two_at s a)
    (Form k p (two_at s a)))))

-- the second section, path (count of 32-byte nodes)
unfoldable pub parse_path : List ℕ → ℕ → Read
parse_path s k =
    need s 35 2
    (field (leb (two_at s 35) (nodes_most k)) 23 35
    (need s 37 (32 * two_at s 35)
    (parse_fragment s k (two_at s 35) (37 + 32 * two_at s 35))))

-- the first section, root (count 32, bytes)
unfoldable pub parse_root : List ℕ → ℕ → Read
parse_root s k =
    need s 1 2
    (field (eqb (two_at s 1) 32) 22 1
    (need s 3 32
    (parse_path s k)))

-- "a kind byte, then three sections in this order, each after its two-byte count"
unfoldable pub parse : List ℕ → Read
parse s =
    need s 0 1
    (field (is_kind (get_or s 0 0)) 21 0
    (parse_root s (get_or s 0 0)))

-- the bytes of a record of kind k: root, path of p nodes and fragment
unfoldable pub record_of : ℕ → List ℕ → ℕ → List ℕ → List ℕ → List ℕ
record_of k root p path fragment = k ∷ (two 32 ++ (root ++ (two p ++ (path ++ (two (length fragment) ++ fragment)))))

-- "a path of no whole number of nodes is 23", and so is one of more nodes than a record of kind k has
unfoldable pub path_ok : ℕ → ℕ → Bool
path_ok k path = eqb (path % 32) 0 && leb (path / 32) (nodes_most k)

-- the form of a record of kind k with a root, a path and a fragment of so many bytes, or the first field at fault "with the offset that the
-- field would have in the record"
unfoldable pub form_of : ℕ → ℕ → ℕ → ℕ → Read
form_of k root path fragment =
    field (is_kind k) 21 0
    (field (eqb root 32) 22 1
    (field (path_ok k path) 23 35
    (field (fragment_ok k fragment) 24 (37 + path)
    (Form k (path / 32) fragment))))

-- "an outgoing record buffer 16,619" bytes: as many as the longest record has
abbrev pub out_bytes : ℕ
out_bytes = 16619

-- "a vote record has 39 bytes": so many are enough for a buffer that is for votes alone
abbrev pub vote_bytes : ℕ
vote_bytes = 39

-- the answer of a call that writes a record: "with every other answer the offset is 0"
abbrev pub answered : ℕ → ℕ → ℕ → Written
answered number offset len = record { number = number; offset = offset; length = len }

-- what writing a record asks of its parts and of the buffer o
pub record Parts (o root : List ℕ) (p : ℕ) (path fragment : List ℕ) : Type 0 where
  pub root_len : length root ≡ 32
  pub nodes : p ≤ 6
  pub path_len : length path ≡ 32 * p
  pub fragment_len : length fragment ≤ 16388
  pub room : 39 + 32 * p + length fragment ≤ length o
