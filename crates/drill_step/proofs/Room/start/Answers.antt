use mathlib.Core.Path.{◌≡◌, refl}
use native.Mathlib.Omega.{arith}
use Rattle.drill_step.proofs.Starts.{none_started, more_started, all_started}
use Rattle.drill_step.proofs.Room.start.Goals as goal

pub loop-i-init : goal.loop-i-init
loop-i-init c = none_started c.args.b.limits.table c.args.self.now.states.now c.requires

pub loop-i-preserved : goal.loop-i-preserved
loop-i-preserved c =
    let l = c.loop-i in more_started c.args.b.limits.table l.i l.states c.start_one.new.states c.loop-i-test.true l.invariant c.start_one.ensures

pub returns : goal.returns
returns c =
    let q : c.loop-i.i ≡ 7 = omega arith in
    (all_started c.args.b.limits.table c.loop-i.states (rw q at c.loop-i.invariant), c.loop-i.invariant.long, record { states_same = refl; kept_same = refl; handed_same = refl; out_same = refl; delivery_same = refl }, refl, refl, refl, refl)
