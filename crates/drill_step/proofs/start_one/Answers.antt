use Rattle.refusal.specs.Numbers.{refused}
use Rattle.drill_step.proofs.Starts.{starting}
use Rattle.drill_step.proofs.start_one.Goals as goal

pub returns : goal.returns
returns c =
    let a = c.args in let p = c.requires in
    starting a.b.limits.table a.i a.states.now c.start.new.state (refused c.start.result) p.0 p.1 c.start.auto.state c.start.ensures
