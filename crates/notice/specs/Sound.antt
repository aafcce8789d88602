-- Which states of a notice board are sound. Document 01: "A later request's state is sound by the same list, read for what that state keeps, and by
-- nothing else".
use Rattle.std.specs.Prelude.{ℕ, ◌/◌, ◌^◌, Bool, not, ◌&&◌, ◌||◌, leb, eqb}
use Rattle.octets.specs.Bytes.{pick}
use Rattle.octets.specs.Sets.{has, every}
use Rattle.table.specs.Table.{limits, is_board, most_of, some_of}
use Rattle.table.specs.declared.Table.{Table}
use Rattle.state.specs.Sound.{reaches}
use Rattle.notice.specs.Form.{notice_most}
use Rattle.notice.specs.State.{NoticeState, heard_of}
use Rattle.notice.specs.declared.Heard.{Heard}

-- "no set names a board above n"
unfoldable pub heard_within : Table → Heard → Bool
heard_within b m = eqb (m.echoes / 2 ^ b.n) 0 && eqb (m.votes / 2 ^ b.n) 0

-- "kept lengths 0 to 64 where heard and 0 otherwise", of board i + 1's echo (k is 2) or vote (3)
unfoldable pub notice_length_ok : NoticeState → ℕ → ℕ → Bool
notice_length_ok v k i = pick (has (heard_of k v.heard) i) (leb (v.len k i) notice_most) (eqb (v.len k i) 0)

-- of both
unfoldable pub notice_board_ok : NoticeState → ℕ → Bool
notice_board_ok v i = notice_length_ok v 2 i && notice_length_ok v 3 i

-- "nothing is overdue": not voted, no notice has n-t echoes or t+1 votes; voted and not done, no notice has n-t votes
unfoldable pub notice_quiet : NoticeState → Bool
notice_quiet v =
    let b = v.table in
    let m = v.heard in
    m.done || pick m.voted (not (reaches b.n (most_of b) m.votes (v.kept 3)))
    (not (reaches b.n (most_of b) m.echoes (v.kept 2)) && not (reaches b.n (some_of b) m.votes (v.kept 3)))

-- "table and own number, sets within n, done implies voted, kept lengths .., nothing overdue"
unfoldable pub notice_sound : NoticeState → Bool
notice_sound v =
    limits v.table && (is_board v.table v.own && (heard_within v.table v.heard && ((not v.heard.done || v.heard.voted)
    && (every (notice_board_ok v) 0 64 && notice_quiet v))))
