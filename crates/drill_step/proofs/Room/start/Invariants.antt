use Rattle.drill_step.proofs.Starts.{Started}
use Rattle.drill_step.proofs.Room.start.Given as goal

abbrev pub invariant-loop-i : goal.invariant-loop-i
invariant-loop-i l = Started l.b.limits.table l.i l.states
