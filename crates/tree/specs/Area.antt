-- The fragment area and the room for its tree's paths. Fragments are numbered from 0.
use Rattle.std.specs.Prelude.{ℕ, ◌*◌, ◌≤◌, List, length}
use Rattle.octets.specs.Bytes.{part}

-- document 01: "A fragment area has n × s_max bytes, fragment i from (i-1) × s_max on": of room s, and each of len bytes
unfoldable pub leaf_at : ℕ → ℕ → List ℕ → ℕ → List ℕ
leaf_at s len area i = part (i * s) len area

-- room for n fragments of len bytes, and document 01: "n × 192 for paths, board i's from (i-1) × 192 on"
pub record Rooms (n s len : ℕ) (area paths : List ℕ) : Type 0 where
  pub some : 1 ≤ n
  pub few : n ≤ 64
  pub fits : len ≤ s
  pub short : s ≤ 16388
  pub fragments : n * s ≤ length area
  pub slots : n * 192 ≤ length paths
