-- A stack of hashes from which a root grows, leaf by leaf. Before leaf i a hash waits for each bit of i that is set: that of the tree with so
-- many leaves, the largest first.
use Rattle.std.specs.Prelude.{ℕ, ◌+◌, ◌*◌, ◌/◌, ◌^◌, ◌≤◌, ◌<◌, ◌≡◌, List}
use Rattle.std.specs.Int.Count.{ones}
use Rattle.octets.specs.Bytes.{part}
use Rattle.sha256.specs.Sha256.{sha256}
use Rattle.tree.specs.Tree.{root, root_of}
use Rattle.tree.specs.Levels.{span, start, middle}

-- where the hash of the tree d levels high that leaf i is in stands: after the larger ones on its left
unfoldable pub top : ℕ → ℕ → ℕ
top d i = 32 * ones (i / 2 ^ d)

-- before leaf i: for each level at which leaf i is on the right, the hash of what is on the left waits in its 32 bytes of w
pub record Waiting (n : ℕ) (fs : ℕ → List ℕ) (i : ℕ) (w : List ℕ) : Type 0 where
  pub left : (d : ℕ) → d < 6 → middle d i ≤ i → part (top (d + 1) i) 32 w ≡ root sha256 fs (span n d (start (d + 1) i))

-- after leaf i: what waits for leaf i + 1, or the root, first of all
pub record Raised (n : ℕ) (fs : ℕ → List ℕ) (i : ℕ) (w : List ℕ) : Type 0 where
  pub waits : i + 1 < n → Waiting n fs (i + 1) w
  pub last : i + 1 ≡ n → part 0 32 w ≡ root_of n fs
