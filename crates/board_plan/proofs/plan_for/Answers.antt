-- `board_plan::plan_for` meets its contract.
-- Assumes nothing.
use native.Mathlib.Omega.{arith}
use mathlib.Core.Path.{sym, ap, ◌∙◌}
use Prim.Native.Nat.{ℕ}
use Rattle.std.proofs.lemmas.Result.{err_from_is_err_and}
use Rattle.std.specs.Prelude.{Result}
use Rattle.refusal.specs.declared.Refusal.{Refusal}
use Rattle.refusal.specs.Numbers.{refused}
use Rattle.refusal.proofs.Numbers.{number_some}
use Rattle.state.specs.State.{view}
use Rattle.state.proofs.Facts.{sound_limits}
use Rattle.board.specs.Planned.{Refuse, plan_by, plan_of}
use Rattle.board.proofs.Buffers.{ready, refused_before, passed_before}
use Rattle.board_plan.proofs.plan_for.Goals as goal

pub returns-in_err-first_refusal : goal.returns-in_err-first_refusal
unfolding plan_of plan_by
returns-in_err-first_refusal c =
    let p = err_from_is_err_and c.from_residual.result c.from_residual.ensures.1 in
    let q = ap (λ (r : Result Unit Refusal). refused r) c.in_err-first_refusal.was in
    rw (p.1, p.2) (refused_before (λ (q : ℕ). Refuse q 0) _ _ c.args.s.now _ _ (sym q ∙ c.first_refusal.ensures) (λ h. omega (arith, h, number_some c.in_err-first_refusal.field-0.0)))

pub plan_record-requires : goal.plan_record-requires
plan_record-requires c =
    let q = ap (λ (r : Result Unit Refusal). refused r) c.in_ok-first_refusal.was in
    let h = (ready c.args.s.now _ _ 0 (sym c.first_refusal.ensures ∙ q)).0 in (h.long, sound_limits (view c.args.s.now) h.sound)

pub returns : goal.returns
unfolding plan_of plan_by
returns c =
    let q = ap (λ (r : Result Unit Refusal). refused r) c.in_ok-first_refusal.was in
    c.plan_record.ensures ∙ passed_before (λ (q : ℕ). Refuse q 0) _ _ c.args.s.now _ _ c.first_refusal.ensures q
