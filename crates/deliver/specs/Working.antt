-- Working definitions of a delivery that has no block in memory.
-- Assumes nothing.
use Rattle.std.specs.Prelude.{◌≡◌, List, ℕ, suc, ◌+◌, ◌-◌, ◌*◌, ◌/◌, ◌%◌, ◌<◌, ◌≤◌, ltb, get_or, Option, Some, None}
use Rattle.std.proofs.Math.Option.{none}
use Rattle.octets.specs.Bytes.{pick, four_at}
use Rattle.table.specs.declared.Table.{Table}
use Rattle.code.specs.Block.{rows}
use Rattle.code_through.specs.Sums.{Master, Scales}
use Rattle.deliver_afresh.specs.Working.{Made}
use Rattle.deliver.specs.Delivered.{block_read, afresh}

-- l is row c of the block b, in rows of k bytes
abbrev pub Row : ℕ → List ℕ → ℕ → List ℕ → Type 0
Row k b c l = (q : ℕ) → q < k → get_or l q 0 ≡ get_or b (c * k + q) 0

-- b is the block of len rows that the kept fragments of the boards xs make, whatever product m of all X - x and scales ds it is worked out by
abbrev pub Whole : List ℕ → ℕ → List ℕ → ℕ → List ℕ → Type 0
Whole area s xs len b = (m ds : List ℕ) → Master xs m → Scales xs m ds → Made area s xs m ds len b

-- byte p of the block that is encoded afresh, whose message ends before `end`: zeros after the message
unfoldable pub fresh_byte : ℕ → List ℕ → ℕ → ℕ
fresh_byte end b p = pick (ltb p end) (get_or b p 0) 0

-- the block `given` of len rows of k bytes is read: its message has n bytes, and l is the last row of the block that is encoded afresh
pub record ReadAs (b : Table) (k len : ℕ) (given : List ℕ) (n : ℕ) (l : List ℕ) : Type 0 where
  pub size : n ≡ four_at given 0
  pub enough : 4 ≤ len * k
  pub fits : n ≤ b.longest
  pub count : rows k n ≡ len
  pub last : (q : ℕ) → q < k → get_or l q 0 ≡ fresh_byte (4 + n) given ((len - 1) * k + q)

-- what reading the block `given` answers: its message's length, or none, and then nothing can be delivered
abbrev pub Readied : Table → ℕ → ℕ → List ℕ → Option ℕ → List ℕ → Type 0
Readied b k len given (Some n) l = ReadAs b k len given n l
Readied b k len given None l = (root : List ℕ) → afresh b root (block_read b given) ≡ none

-- of the message of n bytes in b, in rows of k bytes, the columns from i on are written, and column i - 1 as far as row c; nothing after it
pub record Copied (b : List ℕ) (n k i c : ℕ) (old new : List ℕ) : Type 0 where
  pub columns : (p : ℕ) → p < n → i ≤ (p + 4) % k → get_or new p 0 ≡ get_or b (p + 4) 0
  pub rows : (p : ℕ) → p < n → suc ((p + 4) % k) ≡ i → (p + 4) / k < c → get_or new p 0 ≡ get_or b (p + 4) 0
  pub after : (p : ℕ) → n ≤ p → get_or new p 0 ≡ get_or old p 0
