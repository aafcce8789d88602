use native.Mathlib.Omega.{arith}
use lib.ListN.{length}
use Rattle.field.specs.Field.{add}
use Rattle.code_through.proofs.Same.{same_more}
use Rattle.code_rebuild.proofs.same_bytes.Goals as goal

pub loop-i-preserved : goal.loop-i-preserved
unfolding add
loop-i-preserved c =
    let l = c.loop-i in
    let a = c.args in same_more a.a.now a.b.now (length a.a.now) l.i l.differ (omega arith) l.invariant.1 l.invariant.2
