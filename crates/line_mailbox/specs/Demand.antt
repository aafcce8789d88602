-- Demand 3 of boards that empty mailboxes.
use Rattle.std.specs.Prelude.{ℕ, Bool, true, ◌≡◌, List, T}
use Rattle.std.proofs.Math.Option.{some}
use Rattle.table.specs.Table.{limits}
use Rattle.table.specs.declared.Table.{Table}
use Rattle.line.specs.Boards.{Keepers}
use Rattle.line.specs.Promise.{PromiseBy}
use Rattle.line_code.specs.Parts.{Sendable}
use Rattle.line_desk.specs.Desk.{Desk, Roomy}
use Rattle.line_demand.specs.Boards.{fragment_kind, Sends}
use Rattle.line_demand.specs.Strings.{OneValue}
use Rattle.line_mailbox.specs.Polls.{Polls, GaveBy, singly, FairBy, OverBy}

-- demand 3, of every history in which boards take records by mailboxes, by steps, or by both. The strings hashed in it are those of the run in which the
-- items are handed over singly.
unfoldable pub DemandThreePolled : Type 0
DemandThreePolled =
    (b : Table) → limits b ≡ true → (m : List ℕ) → Sendable b m
    → (keeps : ℕ → Bool) → Keepers b.n b.t keeps → (lent : ℕ → Desk) → ((j : ℕ) → T (keeps j) → Roomy (fragment_kind b) (lent j))
    → (p : Polls) → FairBy b lent keeps (Sends b m) p
    → PromiseBy keeps b.sender (λ j d. GaveBy b lent j d p) (OverBy b lent keeps (Sends b m) p) (some m) (OneValue b lent keeps m (singly b lent p))
