-- A board's state: what its first 4,608 bytes say (document 01, "The table of boards" and "A board's step"; docs/STATE.md has the layout).
use Rattle.std.specs.Prelude.{ℕ, ◌+◌, ◌*◌, List, ◌∷◌, ◌++◌, Bool, not, get_or, eqb}
use Rattle.octets.specs.Bytes.{two_at, eight_at, part, eight}
use Rattle.octets.specs.Sets.{bit}
use Rattle.table.specs.Table.{s_max}
use Rattle.table.specs.declared.Table.{Table}
use Rattle.state.specs.declared.Marks.{Marks}

-- the first bytes of a state, all that soundness looks at: "4,608 + n × s_max bytes"
abbrev pub fixed_bytes : ℕ
fixed_bytes = 4608

-- where the own number stands, after the table's n, t and S, the first three bytes
abbrev pub own_at : ℕ
own_at = 3

-- where L stands, in two bytes
abbrev pub longest_at : ℕ
longest_at = 4

-- where the flags begin, a byte each: acquired, voted, output stage, done
abbrev pub marks_at : ℕ
marks_at = 6

-- where the set of boards whose echo was heard stands, in eight bytes
abbrev pub echoes_at : ℕ
echoes_at = 10

-- where the set of boards whose echo is usable stands
abbrev pub usable_at : ℕ
usable_at = 18

-- where the set of boards whose vote was heard stands
abbrev pub votes_at : ℕ
votes_at = 26

-- where the lengths of the kept fragments begin, two bytes a board
abbrev pub kept_lengths : ℕ
kept_lengths = 40

-- where the echoes' roots begin, 32 bytes a board
abbrev pub echo_roots : ℕ
echo_roots = 256

-- where the votes' roots begin, 32 bytes a board
abbrev pub vote_roots : ℕ
vote_roots = 2304

-- where the length of the fragment kept of board i + 1 stands
abbrev pub len_at : ℕ → ℕ
len_at i = kept_lengths + 2 * i

-- where the root that its echo named stands
abbrev pub echo_at : ℕ → ℕ
echo_at i = echo_roots + 32 * i

-- where the root that its vote named stands
abbrev pub vote_at : ℕ → ℕ
vote_at i = vote_roots + 32 * i

-- where its fragment stands, in a room of s_max bytes
abbrev pub fragment_at : ℕ → ℕ → ℕ
fragment_at max i = fixed_bytes + i * max

-- a flag is false if its byte is 0 and true otherwise
abbrev pub flag : List ℕ → ℕ → Bool
flag s a = not (eqb (get_or s a 0) 0)

-- "a state buffer needs 4,608 + n × s_max bytes"
unfoldable pub state_size : Table → ℕ
state_size b = fixed_bytes + b.n * s_max b

-- "these four are the table"
unfoldable pub table_of : List ℕ → Table
table_of s = record { n = get_or s 0 0; t = get_or s 1 0; sender = get_or s 2 0; longest = two_at s longest_at }

-- "the own number goes beside it at a start and in a state"
unfoldable pub own_of : List ℕ → ℕ
own_of s = get_or s own_at 0

-- four flags; "boards heard are kept as 64-bit sets"
unfoldable pub marks_of : List ℕ → Marks
marks_of s = record {
  acquired = flag s marks_at;
  voted = flag s (marks_at + 1);
  output = flag s (marks_at + 2);
  done = flag s (marks_at + 3);
  echoes = eight_at s echoes_at;
  usable = eight_at s usable_at;
  votes = eight_at s votes_at;
}

-- the marks as bytes
unfoldable pub marks_bytes : Marks → List ℕ
marks_bytes m =
    bit m.acquired ∷ bit m.voted ∷ bit m.output ∷ bit m.done ∷ (eight m.echoes ++ (eight m.usable ++ eight m.votes))

-- a state: "one echo and one vote are kept from each board"; of board i + 1 the echo's fragment length and root, and the vote's root
pub record State : Type 0 where
  pub table : Table
  pub own : ℕ
  pub marks : Marks
  pub len : ℕ → ℕ
  pub echo_root : ℕ → List ℕ
  pub vote_root : ℕ → List ℕ

-- a table and marks, with what the bytes s keep beside them
abbrev pub view_of : Table → Marks → List ℕ → State
view_of b m s = record {
  table = b;
  own = own_of s;
  marks = m;
  len = λ i. two_at s (len_at i);
  echo_root = λ i. part (echo_at i) 32 s;
  vote_root = λ i. part (vote_at i) 32 s;
}

-- what the bytes say: every byte pattern says something
abbrev pub view : List ℕ → State
view s = view_of (table_of s) (marks_of s) s
