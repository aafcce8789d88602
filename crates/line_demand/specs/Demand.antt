-- Demand 3, whole, of the boards that C calls.
use Rattle.std.specs.Prelude.{ℕ, Bool, true, ◌≡◌, List, T}
use Rattle.std.proofs.Math.Option.{some}
use Rattle.table.specs.Table.{limits}
use Rattle.table.specs.declared.Table.{Table}
use Rattle.line.specs.Boards.{Keepers}
use Rattle.line.specs.Run.{Run, Fair}
use Rattle.line.specs.Promise.{Promise}
use Rattle.line_code.specs.Parts.{Sendable}
use Rattle.line_desk.specs.Desk.{Desk, Roomy}
use Rattle.line_demand.specs.Boards.{fragment_kind, Sends, boards}
use Rattle.line_demand.specs.Strings.{OneValue}

-- "n boards started fresh with one table, at most t break the rules and send anything, records between the rest are genuine but may be late, repeated,
-- reordered or lost: no two rule-keeping boards deliver different results (void is a result), and under a rule-keeping sender none delivers anything
-- but its message, unless two different byte strings hashed in the run have one SHA-256 value. If a rule-keeping board has delivered, or the sender
-- keeps the rules, and every record between rule-keeping boards has been handed over, all of them have delivered."
--
-- It is about boards of bytes, each of which runs `start_of` once and then `step_of`: what C calls. All starts stand at the beginning of a run, since a
-- start touches its own buffers only. b is the table, lent the buffers of each board before its start, keeps the boards that keep the rules, m the
-- sender's message, if it keeps them.
unfoldable pub DemandThree : Type 0
DemandThree =
    (b : Table) → limits b ≡ true → (m : List ℕ) → Sendable b m
    → (keeps : ℕ → Bool) → Keepers b.n b.t keeps → (lent : ℕ → Desk) → ((j : ℕ) → T (keeps j) → Roomy (fragment_kind b) (lent j))
    → (r : Run (boards b lent)) → Fair (boards b lent) keeps (Sends b m) r
    → Promise (boards b lent) keeps b.sender (Sends b m) (some m) (OneValue b lent keeps m r) r
