-- `code_sum::put_sum` meets its contract.
-- Assumes nothing.
use native.Mathlib.Omega.{arith}
use lib.ListN.{length-replicate}
use Rattle.code_sum.proofs.Bitwise.{sums_fronted}
use Rattle.code_sum.proofs.put_sum.Goals as goal

pub returns : goal.returns
returns g c =
    let u = c.sum_up in
    let v = c.copy_at in
    sums_fronted _ _ _ _ _ g.row.N u.new.sum c.args.out.now v.new.dst (λ i h. u.ensures i (simp length-replicate h))
    (omega (arith, u.auto.sum)) c.requires.1 v.ensures
