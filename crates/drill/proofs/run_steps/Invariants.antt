use Rattle.drill_lines.specs.Read.{numbered}
use Rattle.drill.proofs.Goings.{Going}
use Rattle.drill.proofs.run_steps.Given as goal

abbrev pub invariant-loop-k : goal.invariant-loop-k
invariant-loop-k l = Going l.o.table.limits.table (numbered l.o.breakers) l.message l.o.count l.o.rest.now l.initial.room l.initial.page l.k l.rest l.room l.page
