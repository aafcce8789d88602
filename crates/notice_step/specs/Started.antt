-- Document 02, request 3: a notice board's start, "1, 2".
use Rattle.std.specs.Prelude.{ℕ, ◌-◌, List, ◌∷◌, not, ◌&&◌, length, replicate, ltb}
use Rattle.octets.specs.Bytes.{pick, put}
use Rattle.table.specs.Table.{limits, is_board}
use Rattle.table.specs.declared.Table.{Table}
use Rattle.board.specs.Started.{Begun, begun}
use Rattle.notice.specs.State.{notice_state_bytes, heard_at}

-- a fresh state: the table and the own number, no flag, no board heard, all else zero
unfoldable pub notice_fresh : Table → ℕ → List ℕ
notice_fresh b own = b.n ∷ b.t ∷ b.sender ∷ own ∷ replicate (notice_state_bytes - heard_at) 0

-- 1, "table outside its limits", of which the own number is one here; 2, "a lent buffer shorter than needed"
unfoldable pub notice_start_of : Table → ℕ → List ℕ → Begun
notice_start_of b own s =
    pick (not (limits b && is_board b own)) (begun 1 s)
    (pick (ltb (length s) notice_state_bytes) (begun 2 s)
    (begun 0 (put 0 (notice_fresh b own) s)))
