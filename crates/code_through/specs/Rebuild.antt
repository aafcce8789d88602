-- Document 01, "Field and fragments": "Rebuilding takes a marked set of fragments with lengths. It answers the one block whose fragments are
-- all those marked, and refuses with 11 exactly if no such block exists. Here a block is any rows of k bytes, readable or not."
-- Assumes nothing.
use Rattle.std.specs.Prelude.{◌≡◌, Bool, true, false, List, ℕ, suc, ◌*◌, ◌<◌, length, get_or}
use Rattle.octets.specs.Bytes.{part, put}
use Rattle.octets.specs.Sets.{has}
use Rattle.code.specs.Code.{All, Byte, fragment_of}

-- b is a block of len rows of k bytes whose fragments are all those marked: fragment i + 1 stands in the area from i * s on
pub record Agrees (n k s len marked : ℕ) (area b : List ℕ) : Type 0 where
  pub size : length b ≡ len * k
  pub bytes : All Byte b
  pub same : (i : ℕ) → i < n → has marked i ≡ true → fragment_of k b (suc i) ≡ part (i * s) len area

-- the same of fragments f by their boards' numbers: b is a block of len rows of k bytes whose fragments are those of the boards xs
pub record HasFragments (k len : ℕ) (xs : List ℕ) (f : ℕ → List ℕ) (b : List ℕ) : Type 0 where
  pub size : length b ≡ len * k
  pub bytes : All Byte b
  pub same : (i : ℕ) → i < length xs → fragment_of k b (get_or xs i 0) ≡ f (get_or xs i 0)

-- the answer r, and the buffer that held `old` and now holds `new`: the block that agrees, or false and nothing written where none does
pub record Rebuilt (n k s len marked : ℕ) (area old : List ℕ) (r : Bool) (new : List ℕ) : Type 0 where
  pub found : (b : List ℕ) → Agrees n k s len marked area b → (r ≡ true) × (new ≡ put 0 b old)
  pub none : ((b : List ℕ) → Agrees n k s len marked area b → ⊥) → (r ≡ false) × (new ≡ old)
