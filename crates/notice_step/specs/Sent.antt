-- Document 02, request 3: the sender's record for one board, "1, 2, 4, 13 (above 64 bytes)".
use Rattle.std.specs.Prelude.{not, List, ℕ, zero, suc, ltb, length}
use Rattle.octets.specs.Bytes.{pick, put}
use Rattle.refusal.specs.Answers.{sized}
use Rattle.table.specs.Table.{limits, is_board}
use Rattle.table.specs.declared.Table.{Table}
use Rattle.board_send.specs.Sent.{SendOut, send_out}
use Rattle.notice.specs.Form.{notice_most, notice_out_bytes, notice_record}

-- the first refusal that applies, or 0
unfoldable pub notice_send_refusal : Table → List ℕ → ℕ → List ℕ → ℕ
notice_send_refusal b notice to out =
    pick (not (limits b)) 1
    (pick (ltb (length out) notice_out_bytes) 2
    (pick (not (is_board b to)) 4
    (pick (ltb notice_most (length notice)) 13 0)))

-- refused and nothing written, or a send with the notice, the same for every board
unfoldable pub notice_send_by : ℕ → List ℕ → List ℕ → SendOut
notice_send_by (suc q) notice out = send_out (sized (suc q) 0) out
notice_send_by zero notice out = send_out (sized 0 (length (notice_record 4 notice))) (put 0 (notice_record 4 notice) out)

-- the call, whole
unfoldable pub notice_send_of : Table → List ℕ → ℕ → List ℕ → SendOut
notice_send_of b notice to out = notice_send_by (notice_send_refusal b notice to out) notice out
