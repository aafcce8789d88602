-- Document 02, request 3: which bytes are a notice's record, and where the others are at fault, "form faults as in request 2".
use Rattle.std.specs.Prelude.{ℕ, ◌+◌, ◌-◌, List, ◌∷◌, ◌++◌, Bool, ◌&&◌, length, get_or, leb}
use Rattle.octets.specs.Bytes.{two_at, two, part}
use Rattle.record.specs.Form.{Read, Form, need, field}

-- "Kinds 4 send, 5 echo, 6 vote"; "every kind that is not the broadcast's own is 21"
unfoldable pub is_notice_kind : ℕ → Bool
is_notice_kind k = leb 4 k && leb k 6

-- "0 to 64 bytes"
abbrev pub notice_most : ℕ
notice_most = 64

-- "outgoing buffer 67 bytes": as many as the longest record of a notice has
abbrev pub notice_out_bytes : ℕ
notice_out_bytes = 67

-- "one section, the notice, after its two-byte count, 0 to 64 bytes (above: 24)"; nothing follows it
unfoldable pub parse_notice : List ℕ → Read
parse_notice s =
    need s 0 1
    (field (is_notice_kind (get_or s 0 0)) 21 0
    (need s 1 2
    (field (leb (two_at s 1) notice_most) 24 1
    (need s 3 (two_at s 1)
    (field (leb (length s) (3 + two_at s 1)) 25 (3 + two_at s 1)
    (Form (get_or s 0 0) 0 (two_at s 1)))))))

-- the form of a record of kind k with a notice of so many bytes, or the field at fault with the offset that it would have in the record
unfoldable pub notice_form : ℕ → ℕ → Read
notice_form k len =
    field (is_notice_kind k) 21 0
    (field (leb len notice_most) 24 1
    (Form k 0 len))

-- the bytes of a record of kind k
unfoldable pub notice_record : ℕ → List ℕ → List ℕ
notice_record k v = k ∷ (two (length v) ++ v)

-- the notice in a record with so many notice bytes
abbrev pub notice_in : ℕ → List ℕ → List ℕ
notice_in f r = part 3 f r

-- what kind it is among the broadcast's three: 1 a send, 2 an echo, 3 a vote
abbrev pub sort_of : ℕ → ℕ
sort_of k = k - 3
