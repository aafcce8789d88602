-- Demand 3, whole, of the notice boards that C calls.
use Rattle.std.specs.Prelude.{ℕ, Bool, true, ◌≡◌, List, T}
use Rattle.table.specs.Table.{limits}
use Rattle.table.specs.declared.Table.{Table}
use Rattle.line.specs.Boards.{Keepers}
use Rattle.line.specs.Run.{Run, Fair}
use Rattle.line.specs.Promise.{Promise}
use Rattle.line_desk.specs.Desk.{Desk, Roomy}
use Rattle.line_notice.specs.Boards.{notice_kind, notice_boards, Noticeable, NoticeSends}

-- Document 02, request 3: "Demand 3 holds for notices without its hash clause and without void." Document 01, demand 3: "n boards started fresh with
-- one table, at most t break the rules and send anything, records between the rest are genuine but may be late, repeated, reordered or lost: no two
-- rule-keeping boards deliver different results .., and under a rule-keeping sender none delivers anything but its message .. If a rule-keeping board
-- has delivered, or the sender keeps the rules, and every record between rule-keeping boards has been handed over, all of them have delivered."
--
-- A result is a notice, and nothing else may have happened: ⊥ stands where the fragment broadcast has two strings with one hash value.
--
-- It is about boards of bytes, each of which runs `notice_start_of` once and then `notice_step_of`: what C calls. All starts stand at the beginning of a
-- run, since a start touches its own buffers only. b is the table, lent the buffers of each board before its start, keeps the boards that keep the
-- rules, v the sender's notice, if it keeps them.
unfoldable pub DemandThreeNotices : Type 0
DemandThreeNotices =
    (b : Table) → limits b ≡ true → (v : List ℕ) → Noticeable v
    → (keeps : ℕ → Bool) → Keepers b.n b.t keeps → (lent : ℕ → Desk) → ((j : ℕ) → T (keeps j) → Roomy (notice_kind b) (lent j))
    → (r : Run (notice_boards b lent)) → Fair (notice_boards b lent) keeps (NoticeSends b v) r
    → Promise (notice_boards b lent) keeps b.sender (NoticeSends b v) v ⊥ r
