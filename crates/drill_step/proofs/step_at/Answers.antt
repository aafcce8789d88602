use Rattle.std.proofs.Common.{◌≡◌, rules, length, replicate}
use Rattle.drill_step.proofs.Steps.{stepping, filled}
use Rattle.drill_step.proofs.step_at.Goals as goal

pub returns : goal.returns
returns c =
    let a = c.args in let p = c.requires in let step = c.step in
    let out : c.fill.new.self ≡ replicate (length a.out.now) 0 = search rules in
    let delivery : c.fill-2.new.self ≡ replicate (length a.delivery.now) 0 = search rules in
    stepping a.states.now a.from a.to a.r.now p.0 p.1 p.2 step.result step.new.state _ _ _ _ (filled _ _ _ p.3 out) (filled _ _ _ p.4 delivery) step.auto.state step.ensures
