-- Document 02, request 3: what a notice board's step is to do with a record, by the refusals in their order.
use Rattle.std.specs.Prelude.{ℕ, ◌-◌, List, Bool, not, ◌||◌, length, ltb, eqb}
use Rattle.octets.specs.Bytes.{pick}
use Rattle.octets.specs.Sets.{has}
use Rattle.table.specs.Table.{is_board}
use Rattle.table.specs.declared.Table.{Table}
use Rattle.record.specs.Form.{Read, Form, Fault}
use Rattle.board.specs.Planned.{Plan, Refuse, Take, is_stray}
use Rattle.notice.specs.Form.{notice_most, notice_out_bytes, parse_notice, sort_of}
use Rattle.notice.specs.State.{notice_state_bytes, notice_table, heard_in, notice_view, heard_of}
use Rattle.notice.specs.Sound.{notice_sound}
use Rattle.notice.specs.declared.Heard.{Heard}

-- 9, "second send, second echo or second vote from that board", of board i + 1
unfoldable pub heard_again : Heard → ℕ → ℕ → Bool
heard_again m i k = pick (eqb k 1) m.acquired (has (heard_of k m) i)

-- 6, 8 and 9, of a record of sort k (1 a send, 2 an echo, 3 a vote) with f notice bytes; 8: "a send is late only when done"
unfoldable pub by_heard : Table → Heard → ℕ → ℕ → ℕ → Plan
by_heard b m from k f =
    pick (is_stray b from k) (Refuse 6 0)
    (pick m.done (Refuse 8 0)
    (pick (heard_again m (from - 1) k) (Refuse 9 0)
    (Take k 0 f)))

-- the record's form, with the offset of the field at fault
unfoldable pub by_notice_form : Table → Heard → ℕ → Read → Plan
by_notice_form b m from (Fault why at) = Refuse why at
by_notice_form b m from (Form k p f) = by_heard b m from (sort_of k) f

-- "step 2 at once below the state's size, then 3, 2, 4, form, 6, 8, 9": by what was read of the record
unfoldable pub notice_plan_by : List ℕ → ℕ → ℕ → ℕ → Read → Plan
notice_plan_by s from o d x =
    let b = notice_table s in
    pick (ltb (length s) notice_state_bytes) (Refuse 2 0)
    (pick (not (notice_sound (notice_view s))) (Refuse 3 0)
    (pick (ltb o notice_out_bytes || ltb d notice_most) (Refuse 2 0)
    (pick (not (is_board b from)) (Refuse 4 0)
    (by_notice_form b (heard_in s) from x))))

-- by the record itself, read
unfoldable pub notice_plan : List ℕ → ℕ → List ℕ → List ℕ → List ℕ → Plan
notice_plan s from r o d = notice_plan_by s from (length o) (length d) (parse_notice r)
