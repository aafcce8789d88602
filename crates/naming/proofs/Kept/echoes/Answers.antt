use Rattle.table.proofs.Within.{within}
use Rattle.naming.proofs.Kept.echoes.Goals as goal

pub invariant_of-result-clause-few : goal.invariant_of-result-clause-few
invariant_of-result-clause-few c = (within _ c.args.b.within).few
