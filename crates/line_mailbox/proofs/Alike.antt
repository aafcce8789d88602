-- A step with one outgoing buffer and a step with another, both long enough, differ in that buffer only.
use Prim.Native.Nat.{ℕ, ◌≤◌}
use mathlib.Core.Path.{◌≡◌, refl, sym, ap₂, subst, ◌∙◌}
use mathlib.Core.List.{List}
use mathlib.Core.Bool.{true}
use borrow.Author.Tests.{le-ltb}
use lib.ListN.{length}
use Rattle.table.specs.declared.Table.{Table}
use Rattle.record.specs.Form.{out_bytes}
use Rattle.board.specs.Planned.{Plan, Refuse, Take, is_short, plan_by, plan_of}
use Rattle.board_step.specs.Step.{Outcome, taken_of, by_plan, step_of}
use Rattle.line.specs.Bytes.{bytes}
use Rattle.line_fragments.specs.Step.{BoardState}
use Rattle.line_code.specs.Parts.{line_of}
use Rattle.line_desk.specs.Desk.{Desk, put_in}
use Rattle.line_demand.specs.Boards.{given_in}
use Rattle.line_demand.proofs.Agree.{agrees}
use Rattle.line_demand.proofs.Carry.{follows, Holds}

pub record Alike (y z : Outcome) : Type 0 where
  pub answer : y.answer ≡ z.answer
  pub state : y.state ≡ z.state
  pub delivery : y.delivery ≡ z.delivery

module _ (s : List ℕ) (from : ℕ) (r o o' d : List ℕ) where
  plan_same : out_bytes ≤ length o → out_bytes ≤ length o' → plan_of s from r o d ≡ plan_of s from r o' d
  unfolding plan_of plan_by is_short
  plan_same h h' = rw (le-ltb (length o) out_bytes h, le-ltb (length o') out_bytes h')

  by_plan_lem : (x : Plan) → Alike (by_plan x s from r o d) (by_plan x s from r o' d)
  unfolding by_plan taken_of
  by_plan_lem (Refuse q a) = record { answer = refl; state = refl; delivery = refl }
  by_plan_lem (Take k p f) = record { answer = refl; state = refl; delivery = refl }

  alike : out_bytes ≤ length o → out_bytes ≤ length o' → Alike (step_of s from r o d) (step_of s from r o' d)
  unfolding step_of
  alike h h' = rw (plan_same h h') (by_plan_lem (plan_of s from r o' d))

-- the same of two boards that hold the same state and delivery buffer
pub step_alike : (s s' : List ℕ) (from : ℕ) (r o o' d d' : List ℕ) → s ≡ s' → d ≡ d' → out_bytes ≤ length o → out_bytes ≤ length o'
    → Alike (step_of s from r o d) (step_of s' from r o' d')
step_alike s s' from r o o' d d' e g h h' =
    subst (Alike (step_of s from r o d)) (ap₂ (λ (x y : List ℕ). step_of x from r o' y) e g) (alike s from r o o' d h h')

-- what they deliver is the same
pub given_alike : (y z : Outcome) → Alike y z → given_in y ≡ given_in z
given_alike y z a = λ i. given_in (record { answer = a.answer i; state = y.state; out = y.out; delivery = a.delivery i })

-- so is what they put out: what the broadcast's step does
pub put_alike : (b : Table) (j : ℕ) (d : Desk) (x : BoardState (line_of b)) → Holds b j d x → (i : ℕ) (r : List ℕ) → bytes r ≡ true → (s' o' d' : List ℕ)
    → d.state ≡ s' → d.delivery ≡ d' → out_bytes ≤ length o' → put_in (step_of d.state i r d.out d.delivery) ≡ put_in (step_of s' i r o' d')
unfolding follows
put_alike b j d x h i r e s' o' d' es ed ho =
    let k = h.shown in
    let a = agrees d.state k.is_sound i r d.out d.delivery e h.out b j k.table k.own k.room h.delivery in
    let c = agrees d.state k.is_sound i r o' d.delivery e ho b j k.table k.own k.room h.delivery in
    a.puts ∙ sym c.puts ∙ ap₂ (λ (x y : List ℕ). put_in (step_of x i r o' y)) es ed
