-- How a record is laid into its buffer: the fragment's room is where each fragment in turn is worked out.
use Rattle.std.specs.Prelude.{◌≡◌, List, ℕ, suc, ◌+◌, ◌≤◌, ◌<◌, length}
use Rattle.octets.specs.Bytes.{put}
use Rattle.code.specs.Code.{fragment_of}
use Rattle.code.specs.Block.{rows, block}
use Rattle.tree.specs.Levels.{path_to}

-- fragment i + 1 of a message, by k
abbrev pub fragments : ℕ → List ℕ → ℕ → List ℕ
fragments k message i = fragment_of k (block k message) (suc i)

-- there is room from `at` on for a fragment, which has len bytes
pub record FragmentRoom (k : ℕ) (message : List ℕ) (at len : ℕ) (out : List ℕ) : Type 0 where
  pub short : length message ≤ 16384
  pub some : 0 < k
  pub few : k ≤ 64
  pub size : len ≡ rows k (length message)
  pub most : len ≤ 16388
  pub fits : at + len ≤ length out

-- two buffers that differ in the room alone
pub record Alike (at len : ℕ) (s r : List ℕ) : Type 0 where
  pub same : (f : List ℕ) → length f ≡ len → put at f s ≡ put at f r

-- the path of leaf i of n stands in the buffer as far as level d
pub record Laid (n : ℕ) (fs : ℕ → List ℕ) (i d at len : ℕ) (old out : List ℕ) : Type 0 where
  pub path : Alike at len out (put 37 (path_to n fs d i) old)
