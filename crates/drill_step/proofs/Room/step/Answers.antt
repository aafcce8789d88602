use Rattle.std.proofs.Common.{rules}
use lib.Seq.{length-take-le}
use lib.ListN.{length-take}
use mathlib.Core.Path.{refl, sym, ◌∙◌}
use native.Mathlib.Omega.{arith}
use Rattle.drill_step.specs.Asked.{boards_of}
use Rattle.drill_step.specs.Boards.{turn_of}
use Rattle.drill_step.proofs.Turns.{turn_missing, turn_taken, turn_letter, numbers}
use Rattle.drill_step.proofs.Steps.{number_few, record_short, message_short, shape}
use Rattle.drill_step.proofs.Room.step.Goals as goal

pub is_out-requires : goal.is_out-requires
is_out-requires c =
    let n = numbers c.args.b c.args.message.now c.args.s c.requires.0 in (n.from_one, n.from_few, omega (arith, c.requires.1.kept_long))

pub returns-then-not-is_out : goal.returns-then-not-is_out
unfolding turn_of
returns-then-not-is_out c =
    let a = c.args in let r = a.self.now in (
      λ l s. rw (← s.from_is, ← s.to_is) (turn_missing a.b.limits.table a.message.now r.states.now r.kept.now _ a.s.from a.s.to l (sym (c.is_out.ensures r.states.now) ∙ c.if-not-is_out.true)
          ∙ turn_letter a.b.limits.table a.message.now (boards_of r) a.s.handed _ a.s.from a.s.to l s.kind_is),
      omega arith,
      omega arith,
      c.requires.1,
      record { states_same = refl; kept_same = refl; handed_same = refl; out_same = refl; delivery_same = refl },
    )

pub step_at-x-requires : goal.step_at-x-requires
step_at-x-requires c =
    let p = c.requires in let n = numbers c.args.b c.args.message.now c.args.s p.0 in (n.to_one, n.to_few, p.1.states_long, p.1.out_long, p.1.delivery_long)

pub slice_bounds-r-end : goal.slice_bounds-r-end
slice_bounds-r-end c =
    let a = c.args in let p = c.requires in let x = c.step_at-x in
    let n = numbers a.b a.message.now a.s p.0 in
    let few = record_short a.self.now.states.now a.s.from a.s.to _ n.to_one n.to_few p.1.states_long x.result _ _ _ x.ensures in
    sym (length-take-le x.result.record_length x.new.out (omega (arith, few, p.1.out_long, x.auto.out)))

pub overflow_sub-s : goal.overflow_sub-s
overflow_sub-s c = (numbers c.args.b c.args.message.now c.args.s c.requires.0).to_one

pub keep-requires : goal.keep-requires
keep-requires c =
    let a = c.args in let p = c.requires in let x = c.step_at-x in
    let n = numbers a.b a.message.now a.s p.0 in
    let few = record_short a.self.now.states.now a.s.from a.s.to _ n.to_one n.to_few p.1.states_long x.result _ _ _ x.ensures in
    (omega (arith, n.to_few, n.to_one), p.1.kept_long, omega (arith, few, length-take x.result.record_length x.new.out))

pub outcome_of-requires : goal.outcome_of-requires
outcome_of-requires c =
    let a = c.args in let p = c.requires in let x = c.step_at-x in
    let n = numbers a.b a.message.now a.s p.0 in
    shape a.self.now.states.now a.s.from a.s.to _ n.to_one n.to_few p.1.states_long x.result _ _ _ x.ensures

pub returns : goal.returns
unfolding turn_of
returns c =
    let a = c.args in let p = c.requires in let x = c.step_at-x in let r = a.self.now in
    let n = numbers a.b a.message.now a.s p.0 in
    let few = number_few r.states.now a.s.from a.s.to _ n.to_one n.to_few p.1.states_long x.result _ _ _ x.ensures in
    let short = message_short r.states.now a.s.from a.s.to _ n.to_one n.to_few p.1.states_long x.result _ _ _ x.ensures in (
      λ l s. rw (← s.from_is, ← s.to_is, c.outcome_of.ensures.0, c.outcome_of.ensures.1)
          (turn_taken a.b.limits.table a.message.now r.states.now r.kept.now _ a.s.from a.s.to l
          (sym (c.is_out.ensures r.states.now) ∙ c.if-not-is_out.false) _
          (c.hand-n.ensures.0 r.states.now l s.raw_is) x.result _ _ _ _ n.to_one n.to_few p.1.states_long x.ensures
          c.keep.ensures c.act_of.result _ refl c.act_of.ensures
          ∙ turn_letter a.b.limits.table a.message.now (boards_of r) a.s.handed _ a.s.from a.s.to l s.kind_is),
      omega (arith, few),
      rw c.outcome_of.ensures.1 short,
      record {
        states_long = x.auto.states ∙ p.1.states_long;
        kept_long = c.keep.auto.kept ∙ p.1.kept_long;
        handed_long = search (rules, p.1.handed_long, c.hand-n.auto.handed);
        out_long = search (rules, p.1.out_long, x.auto.out);
        delivery_long = x.auto.delivery ∙ p.1.delivery_long;
      },
      record { states_same = refl; kept_same = refl; handed_same = refl; out_same = refl; delivery_same = refl },
    )
