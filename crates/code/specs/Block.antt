-- Document 01, "Field and fragments": a message's block, and the message that is read from a block.
use Rattle.std.specs.Prelude.{Bool, ◌&&◌, List, ◌++◌, ℕ, ◌+◌, ◌-◌, ◌*◌, ◌/◌, ◌%◌, leb, eqb, length, replicate}
use Rattle.octets.specs.Bytes.{four, four_at, part}

-- "the message length (4 bytes, high byte first)"
unfoldable pub header : ℕ → List ℕ
header m = four m

-- the rows of k bytes that hold m bytes and their length: (m + 4) / k rounded up
unfoldable pub rows : ℕ → ℕ → ℕ
rows k m = (m + 4 + (k - 1)) / k

-- "A block is the message length, the message, then zeros up to a multiple of k"
unfoldable pub block : ℕ → List ℕ → List ℕ
block k msg = (header (length msg) ++ msg) ++ replicate (rows k (length msg) * k - (4 + length msg)) 0

-- "Reading a block: fewer than 4 bytes, a byte count that is no multiple of k, a length above L, or (length+4)/k rounded up differing
-- from the rows given, is refused"
unfoldable pub readable : ℕ → ℕ → List ℕ → Bool
readable k longest b =
    leb 4 (length b) && (eqb (length b % k) 0 && (leb (four_at b 0) longest && eqb (rows k (four_at b 0)) (length b / k)))

-- "Otherwise the message is the bytes after the length; bytes after it are not looked at"
unfoldable pub block_message : List ℕ → List ℕ
block_message b = part 4 (four_at b 0) b
