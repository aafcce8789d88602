-- Encoding with whole columns: the same rows of several fragments at a time.
-- Assumes nothing.
use Rattle.std.specs.Prelude.{◌≡◌, ◌≢◌, List, ◌++◌, ℕ, ◌+◌, ◌*◌, ◌/◌, ◌%◌, ◌^◌, ◌<◌, ◌≤◌, length, get_or}
use Rattle.field.specs.Field.{add, mul}
use Rattle.code.specs.Block.{header}

-- the places from a to below e hold g, and those before a are as they were
pub record Drawn (a e : ℕ) (g : ℕ → ℕ) (old new : List ℕ) : Type 0 where
  pub each : (i : ℕ) → a ≤ i → i < e → get_or new i 0 ≡ g i
  pub before : (i : ℕ) → i < a → get_or new i 0 ≡ get_or old i 0

-- byte d of old from a place on, d below n, is f d, and nothing else is written
pub record Filled (from n : ℕ) (f : ℕ → ℕ) (old new : List ℕ) : Type 0 where
  pub each : (d : ℕ) → d < n → get_or new (from + d) 0 ≡ f d
  pub before : (p : ℕ) → p < from → get_or new p 0 ≡ get_or old p 0
  pub after : (p : ℕ) → from + n ≤ p → get_or new p 0 ≡ get_or old p 0

-- of rooms of s bytes, so many from a place on, byte d of room i, d below n, is f i d, and nothing else is written
pub record Patch (at count s n : ℕ) (f : ℕ → ℕ → ℕ) (old new : List ℕ) : Type 0 where
  pub each : (i d : ℕ) → i < count → d < n → get_or new (at + i * s + d) 0 ≡ f i d
  pub kept : (p : ℕ) → ((i d : ℕ) → i < count → d < n → p ≢ at + i * s + d) → get_or new p 0 ≡ get_or old p 0

-- rooms of s bytes, so many from a place on, have place for n bytes each and lie, as far as these, in a list of the size
abbrev pub HasRooms : ℕ → ℕ → ℕ → ℕ → ℕ → Type 0
HasRooms at count s n size = (n ≤ s) × (at + count * s + n ≤ size + s)

-- byte from + i * k of a message's block, which is 0 past its end
abbrev pub in_block : List ℕ → ℕ → ℕ → ℕ → ℕ
in_block msg k from i = get_or (header (length msg) ++ msg) (from + i * k) 0

-- byte d of room i, with byte d of the column added if bit b of the board's power is set
abbrev pub plus_bit : ℕ → ℕ → ℕ → List ℕ → List ℕ → List ℕ → ℕ → ℕ → ℕ
plus_bit at s b powers column old i d = add (get_or old (at + i * s + d) 0) (get_or powers i 0 / 2 ^ b % 2 * get_or column d 0)

-- byte d of room i, with byte d of the column, times the board's power, added
abbrev pub plus_times : ℕ → ℕ → List ℕ → List ℕ → List ℕ → ℕ → ℕ → ℕ
plus_times at s powers column old i d = add (get_or old (at + i * s + d) 0) (mul (get_or powers i 0) (get_or column d 0))
