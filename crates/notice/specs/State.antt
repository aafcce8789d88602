-- A notice board's state: what its 8,352 bytes say (document 02, request 3; docs/STATE.md has the layout).
use Rattle.std.specs.Prelude.{ℕ, ◌+◌, ◌*◌, ◌^◌, List, ◌∷◌, ◌++◌, Bool, ◌&&◌, ◌||◌, get_or, leb, eqb}
use Rattle.std.specs.Int.Bits.{bit_or}
use Rattle.std.specs.Int.Count.{ones}
use Rattle.octets.specs.Bytes.{pick, eight_at, part, eight}
use Rattle.octets.specs.Sets.{bit}
use Rattle.table.specs.Table.{most_of, some_of}
use Rattle.table.specs.declared.Table.{Table}
use Rattle.state.specs.State.{flag}
use Rattle.state.specs.Sound.{naming}
use Rattle.notice.specs.declared.Heard.{Heard}

-- "one fixed size for every n"
abbrev pub notice_state_bytes : ℕ
notice_state_bytes = 8352

-- where the flags begin, a byte each: acquired, voted, done; n, t, S and the own number are the four bytes before
abbrev pub heard_at : ℕ
heard_at = 4

-- where the set of boards whose echo was heard stands, in eight bytes
abbrev pub heard_echoes_at : ℕ
heard_echoes_at = 7

-- where the set of boards whose vote was heard stands
abbrev pub heard_votes_at : ℕ
heard_votes_at = 15

-- where the echoes' notices begin, 65 bytes a board: a length, and room for 64 bytes
abbrev pub echo_notices : ℕ
echo_notices = 32

-- where the votes' notices begin
abbrev pub vote_notices : ℕ
vote_notices = 4192

-- where the place of board i + 1's echo (k is 2) or vote (3) is
abbrev pub place_at : ℕ → ℕ → ℕ
place_at k i = pick (eqb k 2) echo_notices vote_notices + 65 * i

-- "Table n, t, S, own number (no L)": L plays no part, it counts as 0
unfoldable pub notice_table : List ℕ → Table
notice_table s = record { n = get_or s 0 0; t = get_or s 1 0; sender = get_or s 2 0; longest = 0 }

-- the own number
unfoldable pub notice_own : List ℕ → ℕ
notice_own s = get_or s 3 0

-- three flags and two sets
unfoldable pub heard_in : List ℕ → Heard
heard_in s = record {
  acquired = flag s heard_at;
  voted = flag s (heard_at + 1);
  done = flag s (heard_at + 2);
  echoes = eight_at s heard_echoes_at;
  votes = eight_at s heard_votes_at;
}

-- these as bytes
unfoldable pub heard_bytes : Heard → List ℕ
heard_bytes m = bit m.acquired ∷ bit m.voted ∷ bit m.done ∷ (eight m.echoes ++ eight m.votes)

-- the length of the notice kept of board i + 1's echo or vote
abbrev pub notice_len : List ℕ → ℕ → ℕ → ℕ
notice_len s k i = get_or s (place_at k i) 0

-- the notice kept of it
abbrev pub notice_kept : List ℕ → ℕ → ℕ → List ℕ
notice_kept s k i = part (place_at k i + 1) (notice_len s k i) s

-- a state: "first echo and first vote of a board count"; of board i + 1 the lengths and the notices, by kind, 2 an echo and 3 a vote
pub record NoticeState : Type 0 where
  pub table : Table
  pub own : ℕ
  pub heard : Heard
  pub len : ℕ → ℕ → ℕ
  pub kept : ℕ → ℕ → List ℕ

-- a table and what was heard, with what the bytes s keep beside them
abbrev pub notice_view_of : Table → Heard → List ℕ → NoticeState
notice_view_of b m s = record { table = b; own = notice_own s; heard = m; len = notice_len s; kept = notice_kept s }

-- what the bytes say: every byte pattern says something
abbrev pub notice_view : List ℕ → NoticeState
notice_view s = notice_view_of (notice_table s) (heard_in s) s

-- the boards whose echo, whose vote was heard
abbrev pub heard_of : ℕ → Heard → ℕ
heard_of k m = pick (eqb k 2) m.echoes m.votes

-- once a record of sort k (1 a send, 2 an echo, 3 a vote) from board i + 1 is taken
unfoldable pub hearing : ℕ → ℕ → Heard → Heard
hearing k i m = record {
  acquired = m.acquired || eqb k 1;
  voted = m.voted;
  done = m.done;
  echoes = pick (eqb k 2) (bit_or m.echoes (2 ^ i)) m.echoes;
  votes = pick (eqb k 3) (bit_or m.votes (2 ^ i)) m.votes;
}

-- how many boards' echoes (k is 2) or votes (3) are for the notice v, "bytes equal and lengths equal"; kept k i is what is kept of board i + 1's
abbrev pub how_many : Table → Heard → (ℕ → ℕ → List ℕ) → ℕ → List ℕ → ℕ
how_many b m kept k v = ones (naming b.n (heard_of k m) (kept k) v)

-- "n-t echoes or t+1 votes for one notice bring the vote"
unfoldable pub notice_due : Table → Heard → (ℕ → ℕ → List ℕ) → List ℕ → Bool
notice_due b m kept v = leb (most_of b) (how_many b m kept 2 v) || leb (some_of b) (how_many b m kept 3 v)

-- "n-t votes, having voted, deliver it"
unfoldable pub notice_won : Table → Heard → (ℕ → ℕ → List ℕ) → List ℕ → Bool
notice_won b m kept v = leb (most_of b) (how_many b m kept 3 v)

-- once all that is due for the notice v is done; word: the record is an echo or a vote
unfoldable pub notice_settled : Table → Bool → Heard → (ℕ → ℕ → List ℕ) → List ℕ → Heard
notice_settled b word m kept v =
    let voted = m.voted || (word && notice_due b m kept v) in
    record { acquired = m.acquired; voted = voted; done = m.done || (word && (voted && notice_won b m kept v)); echoes = m.echoes; votes = m.votes }
