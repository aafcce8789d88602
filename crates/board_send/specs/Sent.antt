-- What a sender's call answers and leaves in its buffer, for every input: document 01, "The sender's record for board j is worked out from
-- table, message and j" and "Sender: 1, 2, 4, 13".
use Rattle.std.specs.Prelude.{not, List, ℕ, zero, suc, ◌-◌, ltb, length}
use Rattle.octets.specs.Bytes.{pick, put}
use Rattle.refusal.specs.Answers.{sized}
use Rattle.table.specs.Table.{limits, is_board}
use Rattle.table.specs.declared.Table.{Table}
use Rattle.tree.specs.Tree.{tree_of, depth, root_of, path_of, flat}
use Rattle.code_encode.specs.Message.{fragment_for}
use Rattle.record.specs.Form.{out_bytes, record_of}
use Rattle.refusal.specs.declared.Sized.{Sized}

-- "table outside its limits", "a lent buffer shorter than needed" (an outgoing record buffer needs 16,619 bytes), "board number (.. to ..) not
-- in 1..n", "message longer than L": the first that applies, or 0
unfoldable pub send_refusal : Table → List ℕ → ℕ → List ℕ → ℕ
send_refusal b message to out =
    pick (not (limits b)) 1
    (pick (ltb (length out) out_bytes) 2
    (pick (not (is_board b to)) 4
    (pick (ltb b.longest (length message)) 13 0)))

-- "Records": a send with the root of all fragments, the path of board `to` and its fragment
unfoldable pub send_record : Table → List ℕ → ℕ → List ℕ
send_record b message to =
    record_of 1 (root_of b.n (fragment_for b message)) (depth (tree_of b.n) (to - 1)) (flat (path_of b.n (fragment_for b message) (to - 1)))
    (fragment_for b message (to - 1))

-- the answer, with the record's length, and the buffer after the call
pub record SendOut : Type 0 where
  pub answer : Sized
  pub out : List ℕ

-- the answer and the buffer, as one
abbrev pub send_out : Sized → List ℕ → SendOut
send_out x o = record { answer = x; out = o }

-- "A refusal returns its number with zeros for every other result and writes nothing"
unfoldable pub send_by : ℕ → Table → List ℕ → ℕ → List ℕ → SendOut
send_by (suc q) b message to out = send_out (sized (suc q) 0) out
send_by zero b message to out = send_out (sized 0 (length (send_record b message to))) (put 0 (send_record b message to) out)

-- "Sender: 1, 2, 4, 13": the call, whole
unfoldable pub send_of : Table → List ℕ → ℕ → List ℕ → SendOut
send_of b message to out = send_by (send_refusal b message to out) b message to out
