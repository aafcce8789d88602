-- With which number the boards that C calls refuse a record that cannot be read, a send of a board that is not the sender, and a second send.
use Prim.Native.Nat.{ℕ, ◌-◌}
use mathlib.Core.Bool.{true, false}
use mathlib.Core.Path.{◌≡◌, ◌∙◌, ap}
use mathlib.Core.List.{List, []}
use mathlib.Core.Option.{some}
use borrow.Author.Tests.{le-ltb, eq-eqb, ne_eqb}
use lib.ListN.{length}
use Rattle.octets.specs.Bytes.{pick}
use Rattle.table.specs.Table.{limits, k_of, s_max}
use Rattle.table.specs.declared.Table.{Table}
use Rattle.code.specs.Block.{rows}
use Rattle.tree.specs.Tree.{tree_of, depth}
use Rattle.record.specs.Form.{parse}
use Rattle.state.specs.State.{marks_of}
use Rattle.board.specs.Planned.{Refuse, is_stray, is_late, is_again, by_marks, by_form, plan_of}
use Rattle.board_send.specs.Sent.{send_record}
use Rattle.board_send.proofs.Sends.{send_form}
use Rattle.board_step.specs.Step.{refused, by_plan, step_of}
use Rattle.line.specs.Boards.{Board}
use Rattle.line.specs.Run.{hand, Run, after, state}
use Rattle.line.proofs.Rounds.{Later}
use Rattle.line_code.specs.Parts.{Sendable}
use Rattle.line_desk.specs.Desk.{Desk, Roomy}
use Rattle.line_demand.specs.Boards.{fragment_kind, boards}
use Rattle.line_demand.proofs.Carry.{board_is}
use Rattle.line_demand.proofs.Reached.{run_plans}

-- the step refuses the record x of board i with the number q and the offset 0, and leaves every buffer as it was
abbrev pub RefusedWith : ℕ → Desk → ℕ → List ℕ → Type 0
RefusedWith q d i x = step_of d.state i x d.out d.delivery ≡ refused q 0 d.state d.out d.delivery

-- at some point of the run board j is handed the record x of board i, and refuses it with q
pub record Refuses (b : Table) (lent : ℕ → Desk) (run : Run (boards b lent)) (j i : ℕ) (x : List ℕ) (q : ℕ) : Type 0 where
  pub before : Run (boards b lent)
  pub onward : Later (boards b lent) (after before j (hand i x)) run
  pub desk : Desk
  pub here : state (boards b lent) before j ≡ some desk
  pub refusal : RefusedWith q desk i x

by_plan_lem : (q : ℕ) (d : Desk) (i : ℕ) (x : List ℕ) → plan_of d.state i x d.out d.delivery ≡ Refuse q 0 → RefusedWith q d i x
unfolding step_of by_plan
by_plan_lem q d i x e = rw e

module _ (b : Table) (limited : limits b ≡ true) (lent : ℕ → Desk) (roomy : (j : ℕ) → Roomy (fragment_kind b) (lent j)) (r : Run (boards b lent)) (j : ℕ) (d : Desk)
    (here : state (boards b lent) r j ≡ some d) (i : ℕ) (bd : Board b.n i) where
  -- no refusal 2, 3 or 4
  plan_is : (x : List ℕ) → plan_of d.state i x d.out d.delivery ≡ by_form b (marks_of d.state) i (parse x)
  unfolding pick
  plan_is x = run_plans b limited lent (λ l. true) (λ l kl. roomy l) r j tt d here i x ∙ rw (board_is b i bd)

  -- "a record of no bytes: 20 at 0"
  pub empty_twenty : RefusedWith 20 d i []
  unfolding by_form parse pick
  empty_twenty = by_plan_lem 20 d i [] (plan_is [])

  module _ (m : List ℕ) (fits : Sendable b m) (k : ℕ) (c : Board b.n k) where
    send_plan : plan_of d.state i (send_record b m k) d.out d.delivery
        ≡ by_marks b (marks_of d.state) i 1 (depth (tree_of b.n) (k - 1)) (rows (k_of b) (length m))
    unfolding by_form
    send_plan = plan_is (send_record b m k) ∙ ap (by_form b (marks_of d.state) i) (send_form b m k limited c.low c.high fits.fits).reads

    -- 6, "send from a board other than S"
    pub forged_six : (i ≡ b.sender → ⊥) → RefusedWith 6 d i (send_record b m k)
    unfolding by_marks is_stray pick
    forged_six ne = by_plan_lem 6 d i (send_record b m k) (send_plan ∙ rw (ne_eqb i b.sender ne))

    -- 9, "second send", before the output stage
    pub second_nine : i ≡ b.sender → (marks_of d.state).acquired ≡ true → (marks_of d.state).output ≡ false → (marks_of d.state).done ≡ false
        → RefusedWith 9 d i (send_record b m k)
    unfolding by_marks is_stray is_late is_again pick
    second_nine e had before alive =
        let short = (send_form b m k limited c.low c.high fits.fits).short in
        by_plan_lem 9 d i (send_record b m k)
        (send_plan ∙ rw (eq-eqb i b.sender e, le-ltb (s_max b) (rows (k_of b) (length m)) short, alive, before, had))
