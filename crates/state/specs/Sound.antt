-- Document 01, "A board's step": which states are sound. The quoted words are that paragraph, in its order.
use Rattle.std.specs.Prelude.{ℕ, ◌/◌, ◌^◌, List, Bool, not, ◌&&◌, ◌||◌, leb, ltb, eqb}
use Rattle.std.specs.Int.Count.{ones}
use Rattle.octets.specs.Bytes.{pick, same}
use Rattle.octets.specs.Sets.{has, every, some, set_of}
use Rattle.table.specs.Table.{limits, is_board, k_of, s_max, most_of, some_of}
use Rattle.table.specs.declared.Table.{Table}
use Rattle.state.specs.State.{State}
use Rattle.state.specs.declared.Marks.{Marks}

-- "no set names a board above n"
unfoldable pub sets_ok : Table → Marks → Bool
sets_ok b m = eqb (m.echoes / 2 ^ b.n) 0 && (eqb (m.usable / 2 ^ b.n) 0 && eqb (m.votes / 2 ^ b.n) 0)

-- "usable is within echoes heard", of board i + 1
unfoldable pub usable_ok : State → ℕ → Bool
usable_ok v i = not (has v.marks.usable i) || has v.marks.echoes i

-- "output stage implies voted, done implies output stage"
unfoldable pub flags_ok : Marks → Bool
flags_ok m = (not m.output || m.voted) && (not m.done || m.output)

-- "kept fragment lengths are 1 to s_max for echoes heard and 0 otherwise", of board i + 1
unfoldable pub length_ok : State → ℕ → Bool
length_ok v i = pick (has v.marks.echoes i) (leb 1 (v.len i) && leb (v.len i) (s_max v.table)) (eqb (v.len i) 0)

-- what is kept of board i + 1 is in order
unfoldable pub board_ok : State → ℕ → Bool
board_ok v i = usable_ok v i && length_ok v i

-- the boards of a set that name a root
unfoldable pub naming : ℕ → ℕ → (ℕ → List ℕ) → List ℕ → ℕ
naming n set root r = set_of (λ i. has set i && same (root i) r) 0 n

-- whether some root is named by at least q boards of a set: "a quorum is a number of ones in such a set"
unfoldable pub reaches : ℕ → ℕ → ℕ → (ℕ → List ℕ) → Bool
reaches n q set root = some (λ i. has set i && leb q (ones (naming n set root (root i)))) 0 n

-- whether the root that board i + 1 voted for "has n-t votes and fewer than k usable echoes"
unfoldable pub waits_at : State → ℕ → Bool
waits_at v i =
    let b = v.table in
    let m = v.marks in
    has m.votes i && (leb (most_of b) (ones (naming b.n m.votes v.vote_root (v.vote_root i)))
    && ltb (ones (naming b.n m.usable v.echo_root (v.vote_root i))) (k_of b))

-- "one root has n-t votes and fewer than k usable echoes"
unfoldable pub waits : State → Bool
waits v = some (waits_at v) 0 v.table.n

-- "nothing is overdue: not voted, no root has n-t echoes or t+1 votes; voted before the output stage, no root has n-t votes;
-- in the output stage and not done," a root waits
unfoldable pub quiet : State → Bool
quiet v =
    let b = v.table in
    let m = v.marks in
    pick m.output (m.done || waits v)
    (pick m.voted (not (reaches b.n (most_of b) m.votes v.vote_root))
    (not (reaches b.n (most_of b) m.echoes v.echo_root) && not (reaches b.n (some_of b) m.votes v.vote_root)))

-- "a state is sound if .."
unfoldable pub sound : State → Bool
sound v =
    limits v.table && (is_board v.table v.own && (sets_ok v.table v.marks && (flags_ok v.marks
    && (every (board_ok v) 0 64 && quiet v))))
