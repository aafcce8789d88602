use mathlib.Core.Path.{◌≡◌}
use mathlib.Core.Bool.{true, false}
use Prim.Native.Nat.{◌+◌, ◌≤◌, ◌<◌}
use lib.ListN.{length}
use native.Mathlib.Omega.{arith}
use Rattle.std.proofs.lemmas.Bool.Decides.{nat_tests}
use Rattle.std.proofs.lemmas.Result.{err_from_is_err_and}
use Rattle.drill_lines.specs.Lines.{right_step}
use Rattle.drill_lines.specs.Read.{numbered, IsStep}
use Rattle.drill_print.specs.Printed.{shown_by}
use Rattle.drill_open.proofs.Opens.{bad_number}
use Rattle.drill_step.proofs.Turns.{hands}
use Rattle.drill.proofs.Steps.{handing}
use Rattle.drill.proofs.Goings.{going_start, going_none, going_bad, going_more, going_over, going_done}
use Rattle.drill.proofs.run_steps.Goals as goal

pub loop-k-init : goal.loop-k-init
loop-k-init c = let o = c.args.o in going_start o.table.limits.table (numbered o.breakers) c.args.message.now o.count o.rest.now c.args.room.now c.args.page.now c.requires.1

pub returns-in_err-line : goal.returns-in_err-line
returns-in_err-line c =
    let p = err_from_is_err_and c.from_residual.result c.from_residual.ensures.1 in
    let l = c.loop-k in let g = l.invariant in let o = c.args.o in
    rw (p.1, p.2) (
      record { text = g.printed; wrote = g.wrote; all = rw c.in_err-line.ensures.0 (going_none _ _ _ _ _ _ _ l.k l.rest.now l.room l.page g (omega arith) (omega arith) c.in_err-line.ensures.1) },
      omega (arith, g.few, o.few),
      g.lengths,
      g.same,
    )

pub returns-in_err-step : goal.returns-in_err-step
returns-in_err-step c =
    let p = err_from_is_err_and c.from_residual-in_err-step.result c.from_residual-in_err-step.ensures.1 in
    let l = c.loop-k in let g = l.invariant in let o = c.args.o in
    let bad = bad_number c.step_in.result (l.k + 4) _ c.in_err-step.ensures.value in
    let wrong : right_step o.table.limits.table (numbered o.breakers) c.in_ok-line.line.now ≡ false = rw c.in_err-step.ensures.ok_part at c.step_in.ensures in
    rw (p.1, p.2) (
      record { text = g.printed; wrote = g.wrote; all = rw bad (going_bad _ _ _ _ _ _ _ l.k l.rest.now l.room l.page g c.in_ok-line.line.now c.in_ok-line.more.now (omega arith) (omega arith) c.in_ok-line.ensures wrong) },
      omega (arith, g.few, o.few),
      g.lengths,
      g.same,
    )

pub step-shown-requires : goal.step-shown-requires
step-shown-requires c =
    let o = c.args.o in
    let right : (right_step o.table.limits.table (numbered o.breakers) c.in_ok-line.line.now ≡ true) × IsStep c.in_ok-step.step c.in_ok-line.line.now = rw c.in_ok-step.ensures.ok_part at c.step_in.ensures in
    (handing o.table.limits.table (numbered o.breakers) c.args.message.now c.in_ok-line.line.now c.in_ok-step.step c.requires.0 right.0 right.1, c.loop-k.invariant.lengths)

pub loop-k-preserved : goal.loop-k-preserved
loop-k-preserved c =
    let o = c.args.o in let l = c.loop-k in let g = l.invariant in let s = c.step-shown in
    let right : (right_step o.table.limits.table (numbered o.breakers) c.in_ok-line.line.now ≡ true) × IsStep c.in_ok-step.step c.in_ok-line.line.now = rw c.in_ok-step.ensures.ok_part at c.step_in.ensures in
    going_more _ _ _ _ _ _ _ l.k l.rest.now l.room l.page g c.in_ok-line.line.now c.in_ok-line.more.now (shown_by s.result) _ _ _ (omega arith) (omega arith) c.in_ok-line.ensures right.0
    (s.ensures.0 c.in_ok-line.line.now (hands right.1)) c.put_line_of.ensures.0 c.put_line_of.ensures.1 s.ensures.3 s.ensures.4

pub returns-then-is_empty : goal.returns-then-is_empty
returns-then-is_empty c =
    let l = c.loop-k in let g = l.invariant in let o = c.args.o in
    let e : length l.rest.now ≤ 0 = grind (arith, nat_tests) in (
      record { text = g.printed; wrote = g.wrote; all = going_done _ _ _ _ _ _ _ l.k l.rest.now l.room l.page g (omega arith) e },
      omega (arith, g.few, o.few),
      g.lengths,
      g.same,
    )

pub returns-else-is_empty : goal.returns-else-is_empty
returns-else-is_empty c =
    let l = c.loop-k in let g = l.invariant in let o = c.args.o in
    let e : 0 < length l.rest.now = grind (arith, nat_tests) in (
      record { text = g.printed; wrote = g.wrote; all = going_over _ _ _ _ _ _ _ l.k l.rest.now l.room l.page g (omega arith) e (omega arith) },
      omega (arith, g.few, o.few),
      g.lengths,
      g.same,
    )
