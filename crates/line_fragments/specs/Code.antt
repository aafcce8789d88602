-- Hash, tree and code of one table, as a broadcast sees them.
use Rattle.std.specs.Prelude.{ℕ, Bool}
use Rattle.std.proofs.Math.Option.{Option}

pub record Code : Type 1 where
  pub Msg : Type 0
  pub Frag : Type 0
  pub Root : Type 0
  pub Path : Type 0
  pub Str : Type 0
  pub hash : Str → Root
  -- encoding: fragments, root and paths of a message, and the strings that are hashed for them
  pub Fits : Msg → Type 0  -- "one message of at most L bytes"
  pub piece : Msg → ℕ → Frag
  pub root : Msg → Root
  pub path : Msg → ℕ → Path
  pub coded : Msg → Str → Type 0
  pub Proper : Frag → Type 0  -- a string of bytes, as every fragment that is read
  -- the path check at a board, and the strings that it hashes
  pub check : Root → ℕ → Frag → Path → Bool
  pub checked : Root → ℕ → Frag → Path → Str → Type 0
  -- document 01: "rebuild from the k lowest-numbered ones; read the block; encode the message afresh; if the new root is the same,
  -- deliver the message, else deliver void. Unequal lengths or an unreadable block are void too."
  pub result : Root → (ℕ → Bool) → (ℕ → Frag) → Option Msg
  -- the strings hashed in that fresh encoding, whether the new root is the same or not; none if it does not come to one
  pub fresh : Root → (ℕ → Bool) → (ℕ → Frag) → Str → Type 0
