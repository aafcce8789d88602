-- Document 01, "A board's step": what a record that is taken leaves, and what is then due; but for the path check and the delivery.
use Rattle.std.specs.Prelude.{ℕ, ◌+◌, ◌-◌, ◌*◌, ◌^◌, ◌≤◌, ◌<◌, ◌≡◌, length, List, Bool, not, ◌&&◌, ◌||◌, leb, eqb}
use Rattle.std.specs.Int.Bits.{bit_or}
use Rattle.std.specs.Int.Count.{ones}
use Rattle.octets.specs.Bytes.{pick, part, put, two}
use Rattle.table.specs.Table.{k_of, s_max, most_of, some_of}
use Rattle.table.specs.declared.Table.{Table}
use Rattle.state.specs.State.{marks_at, fixed_bytes, table_of, marks_of, marks_bytes, len_at, echo_at, vote_at, fragment_at}
use Rattle.state.specs.Sound.{naming}
use Rattle.state.specs.declared.Marks.{Marks}

-- the root, the path of p nodes and the fragment of f bytes in a record
abbrev pub record_root : List ℕ → List ℕ
record_root r = part 3 32 r

-- the path: nodes of 32 bytes after the root and its count
abbrev pub record_path : ℕ → List ℕ → List ℕ
record_path p r = part 37 (32 * p) r

-- the fragment: the last section
abbrev pub record_fragment : ℕ → ℕ → List ℕ → List ℕ
record_fragment p f r = part (39 + 32 * p) f r

-- the marks once a record of kind k from board i + 1 is taken: a send "mark it acquired"; an echo, "usable if the path is
-- correct" (good), and "an unusable echo still counts as an echo"; a vote
unfoldable pub marked : ℕ → ℕ → Bool → Marks → Marks
marked k i good m = record {
  acquired = m.acquired || eqb k 1;
  voted = m.voted;
  output = m.output;
  done = m.done;
  echoes = pick (eqb k 2) (bit_or m.echoes (2 ^ i)) m.echoes;
  usable = pick (eqb k 2 && good) (bit_or m.usable (2 ^ i)) m.usable;
  votes = pick (eqb k 3) (bit_or m.votes (2 ^ i)) m.votes;
}

-- the bytes kept of it: "echo from i: keep its root and fragment", "vote from i: keep its root"; max is s_max
unfoldable pub kept : ℕ → ℕ → ℕ → ℕ → ℕ → List ℕ → List ℕ → List ℕ
kept max k i p f r s =
    pick (eqb k 2) (put (fragment_at max i) (record_fragment p f r) (put (len_at i) (two f) (put (echo_at i) (record_root r) s)))
    (pick (eqb k 3) (put (vote_at i) (record_root r) s) s)

-- "n-t echoes name one root, or t+1 votes do"
unfoldable pub vote_due : Table → Marks → List ℕ → List ℕ → Bool
vote_due b m s root =
    leb (most_of b) (ones (naming b.n m.echoes (λ j. part (echo_at j) 32 s) root))
    || leb (some_of b) (ones (naming b.n m.votes (λ j. part (vote_at j) 32 s) root))

-- "n-t votes name one root"
unfoldable pub won : Table → Marks → List ℕ → List ℕ → Bool
won b m s root = leb (most_of b) (ones (naming b.n m.votes (λ j. part (vote_at j) 32 s) root))

-- "k usable echoes name that root"
unfoldable pub enough_usable : Table → Marks → List ℕ → List ℕ → Bool
enough_usable b m s root = leb (k_of b) (ones (naming b.n m.usable (λ j. part (echo_at j) 32 s) root))

-- "then, not yet voted: .. put out a vote"; word: the record is an echo or a vote
unfoldable pub voted_now : Table → Bool → Marks → List ℕ → List ℕ → Bool
voted_now b word m s root = m.voted || (word && vote_due b m s root)

-- "then, voted and ..: the output stage opens on that root"
unfoldable pub output_now : Table → Bool → Marks → List ℕ → List ℕ → Bool
output_now b word m s root = m.output || (word && (voted_now b word m s root && won b m s root))

-- "in the output stage, once ..": the delivery is due, and "the board is then done"
unfoldable pub ends_now : Table → Bool → Marks → List ℕ → List ℕ → Bool
ends_now b word m s root = word && (output_now b word m s root && (won b m s root && enough_usable b m s root))

-- the marks with the last three flags as said
unfoldable pub with_flags : Marks → Bool → Bool → Bool → Marks
with_flags m voted output done = record {
  acquired = m.acquired;
  voted = voted;
  output = output;
  done = done;
  echoes = m.echoes;
  usable = m.usable;
  votes = m.votes;
}

-- the marks once all that is due is done
unfoldable pub settled_to : Table → Bool → Marks → List ℕ → List ℕ → Marks
settled_to b word m s root = with_flags m (voted_now b word m s root) (output_now b word m s root) (m.done || ends_now b word m s root)

-- the state that a record of kind k from a board leaves, by whether its path is correct
unfoldable pub leaves : Bool → ℕ → ℕ → ℕ → ℕ → List ℕ → List ℕ → List ℕ
leaves good k p f from r s =
    let b = table_of s in
    let s1 = kept (s_max b) k (from - 1) p f r s in
    put marks_at (marks_bytes (settled_to b (not (eqb k 1)) (marked k (from - 1) good (marks_of s)) s1 (record_root r))) s1

-- what keeping a record of p nodes and f fragment bytes of board i + 1 asks of the buffers
pub record KeptRoom (s r : List ℕ) (max i p f : ℕ) : Type 0 where
  pub board : i < 64
  pub most : max ≤ 16388
  pub long : fixed_bytes ≤ length s
  pub fragment : fragment_at max i + f ≤ length s
  pub nodes : p ≤ 6
  pub ends : 39 + 32 * p + f ≡ length r
