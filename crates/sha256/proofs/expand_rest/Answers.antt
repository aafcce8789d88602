use Rattle.std.proofs.Common.{arith, length-set}
use Rattle.sha256.proofs.Next.{expand_step}
use Rattle.sha256.proofs.expand_rest.Goals as goal

pub loop-t-preserved : goal.loop-t-preserved
loop-t-preserved c =
    let l = c.loop-t in (
      omega arith,
      omega arith,
      simp length-set l.invariant.2,
      λ b h. expand_step b l.w l.t c.expanded.result l.invariant.0 (omega arith) (l.invariant.3 b h) c.expanded.ensures,
    )
