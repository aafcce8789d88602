use mathlib.Core.Path.{sym, ◌∙◌}
use native.Mathlib.Omega.{arith}
use lib.Seq.{length-take-le}
use Rattle.record.specs.Form.{out_bytes}
use Rattle.drill.specs.Call.{lent, drill_short}
use Rattle.drill.proofs.Calls.{long_enough, call_refused, call_made, all_left}
use Rattle.drill.proofs.tumbeliko_drill.Goals as goal

pub returns-then-is_short : goal.returns-then-is_short
unfolding drill_short
returns-then-is_short c =
    let a = c.args in rw c.from.ensures (call_refused a.input.now (lent a.message.now a.states.now a.kept.now a.handed.now a.out.now a.delivery.now a.text.now) (sym c.is_short.ensures ∙ c.if-is_short.true))

pub slice_bounds-run_lent-end-2 : goal.slice_bounds-run_lent-end-2
unfolding drill_short
slice_bounds-run_lent-end-2 c =
    let a = c.args in let long = long_enough (lent a.message.now a.states.now a.kept.now a.handed.now a.out.now a.delivery.now a.text.now) (sym c.is_short.ensures ∙ c.if-is_short.false) in
    sym (length-take-le 64 a.message.now long.message_long)

pub slice_bounds-run_lent-end-4 : goal.slice_bounds-run_lent-end-4
unfolding drill_short
slice_bounds-run_lent-end-4 c =
    let a = c.args in let long = long_enough (lent a.message.now a.states.now a.kept.now a.handed.now a.out.now a.delivery.now a.text.now) (sym c.is_short.ensures ∙ c.if-is_short.false) in
    sym (length-take-le 35588 a.states.now long.states_long)

pub slice_bounds-run_lent-end-6 : goal.slice_bounds-run_lent-end-6
unfolding drill_short
slice_bounds-run_lent-end-6 c =
    let a = c.args in let long = long_enough (lent a.message.now a.states.now a.kept.now a.handed.now a.out.now a.delivery.now a.text.now) (sym c.is_short.ensures ∙ c.if-is_short.false) in
    sym (length-take-le 14336 a.kept.now long.kept_long)

pub slice_bounds-run_lent-end-8 : goal.slice_bounds-run_lent-end-8
unfolding drill_short
slice_bounds-run_lent-end-8 c =
    let a = c.args in let long = long_enough (lent a.message.now a.states.now a.kept.now a.handed.now a.out.now a.delivery.now a.text.now) (sym c.is_short.ensures ∙ c.if-is_short.false) in
    sym (length-take-le out_bytes a.handed.now long.handed_long)

pub slice_bounds-run_lent-end-10 : goal.slice_bounds-run_lent-end-10
unfolding drill_short
slice_bounds-run_lent-end-10 c =
    let a = c.args in let long = long_enough (lent a.message.now a.states.now a.kept.now a.handed.now a.out.now a.delivery.now a.text.now) (sym c.is_short.ensures ∙ c.if-is_short.false) in
    sym (length-take-le out_bytes a.out.now long.out_long)

pub slice_bounds-run_lent-end-12 : goal.slice_bounds-run_lent-end-12
unfolding drill_short
slice_bounds-run_lent-end-12 c =
    let a = c.args in let long = long_enough (lent a.message.now a.states.now a.kept.now a.handed.now a.out.now a.delivery.now a.text.now) (sym c.is_short.ensures ∙ c.if-is_short.false) in
    sym (length-take-le 64 a.delivery.now long.delivery_long)

pub run_lent-end-requires : goal.run_lent-end-requires
unfolding drill_short
run_lent-end-requires c =
    let a = c.args in let long = long_enough (lent a.message.now a.states.now a.kept.now a.handed.now a.out.now a.delivery.now a.text.now) (sym c.is_short.ensures ∙ c.if-is_short.false) in
    record {
      message_is = length-take-le 64 a.message.now long.message_long;
      states_is = length-take-le 35588 a.states.now long.states_long;
      kept_is = length-take-le 14336 a.kept.now long.kept_long;
      handed_is = length-take-le out_bytes a.handed.now long.handed_long;
      out_is = length-take-le out_bytes a.out.now long.out_long;
      delivery_is = length-take-le 64 a.delivery.now long.delivery_long;
      text_long = long.text_long;
    }

pub overflow_cast-end : goal.overflow_cast-end
overflow_cast-end c = omega (arith, c.run_lent-end.ensures.few)

pub returns : goal.returns
unfolding drill_short
returns c =
    let a = c.args in
    let b = lent a.message.now a.states.now a.kept.now a.handed.now a.out.now a.delivery.now a.text.now in
    let long = sym c.is_short.ensures ∙ c.if-is_short.false in
    rw c.from-2.ensures (call_made a.input.now b _ c.run_lent-end.result long (all_left a.input.now b (long_enough b long) c.run_lent-end.result (lent _ _ _ _ _ _ _) c.run_lent-end.ensures))
