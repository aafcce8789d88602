-- Document 02, request 3: a notice board's step, whole; what it answers and what it leaves in every buffer lent. The quoted words are the request's.
use Rattle.std.specs.Prelude.{ℕ, ◌-◌, List, [], ◌∷◌, Bool, not, ◌&&◌, ◌||◌, length, eqb}
use Rattle.std.proofs.Math.Option.{some}
use Rattle.octets.specs.Bytes.{pick, put}
use Rattle.board.specs.Planned.{Plan, Refuse, Take}
use Rattle.board_step.specs.Step.{Outcome, outcome, stepped, refused, delivered}
use Rattle.notice.specs.Form.{notice_record, notice_in}
use Rattle.notice.specs.State.{heard_at, place_at, notice_table, heard_in, heard_bytes, notice_kept, hearing, notice_due, notice_won, notice_settled}
use Rattle.notice_step.specs.Planned.{notice_plan}

-- what is kept of a record of sort k (1 a send, 2 an echo, 3 a vote) with f notice bytes from board i + 1: of an echo and of a vote the notice, after
-- its length
unfoldable pub kept_notice : ℕ → ℕ → ℕ → List ℕ → List ℕ → List ℕ
kept_notice k i f r s = pick (eqb k 1) s (put (place_at k i) (f ∷ notice_in f r) s)

-- the state that the record leaves
unfoldable pub notice_leaves : ℕ → ℕ → ℕ → List ℕ → List ℕ → List ℕ
notice_leaves k f from r s =
    let s1 = kept_notice k (from - 1) f r s in
    put heard_at (heard_bytes (notice_settled (notice_table s) (not (eqb k 1)) (hearing k (from - 1) (heard_in s)) (notice_kept s1) (notice_in f r))) s1

-- "the first send from S is echoed whole"; "n-t echoes or t+1 votes for one notice bring the vote", if the board has not voted; or nothing is put out
unfoldable pub notice_said : ℕ → ℕ → ℕ → List ℕ → List ℕ → List ℕ
notice_said k f from r s =
    let m = hearing k (from - 1) (heard_in s) in
    let s1 = kept_notice k (from - 1) f r s in
    pick (eqb k 1) (notice_record 5 (notice_in f r))
    (pick (not m.voted && notice_due (notice_table s) m (notice_kept s1) (notice_in f r)) (notice_record 6 (notice_in f r)) [])

-- "n-t votes, having voted, deliver it"
unfoldable pub notice_ends : ℕ → ℕ → ℕ → List ℕ → List ℕ → Bool
notice_ends k f from r s =
    let m = hearing k (from - 1) (heard_in s) in
    let s1 = kept_notice k (from - 1) f r s in
    not (eqb k 1) && ((m.voted || notice_due (notice_table s) m (notice_kept s1) (notice_in f r)) && notice_won (notice_table s) m (notice_kept s1) (notice_in f r))

-- "a step may put out a record and deliver at once: the results carry both"
unfoldable pub notice_taken : ℕ → ℕ → List ℕ → ℕ → List ℕ → List ℕ → List ℕ → Outcome
notice_taken k f s from r o d =
    let w = notice_said k f from r s in
    let x = delivered (notice_ends k f from r s) (some (notice_in f r)) d in
    outcome (stepped (length w) x.kind x.size) (notice_leaves k f from r s) (put 0 w o) x.buffer

-- refused, or taken
unfoldable pub notice_by_plan : Plan → List ℕ → ℕ → List ℕ → List ℕ → List ℕ → Outcome
notice_by_plan (Refuse q a) s from r o d = refused q a s o d
notice_by_plan (Take k p f) s from r o d = notice_taken k f s from r o d

-- a notice board's step: the state s, the record r from a board, the outgoing record buffer o, the delivery buffer d
unfoldable pub notice_step_of : List ℕ → ℕ → List ℕ → List ℕ → List ℕ → Outcome
notice_step_of s from r o d = notice_by_plan (notice_plan s from r o d) s from r o d
