use Prim.Native.Nat.{◌+◌}
use native.Mathlib.Omega.{arith}
use lib.ListN.{length}
use Rattle.code_through.proofs.Columns.{inside, scatter_next}
use Rattle.code_rebuild.proofs.scatter.Goals as goal

pub loop-i-preserved : goal.loop-i-preserved
loop-i-preserved c =
    let a = c.args in
    let l = c.loop-i in
    let h = inside (a.c + l.i) a.k a.m (a.c + length a.src.now) (length l.out) (omega arith) (omega arith) (omega (arith, c.requires.3, l.auto.out)) in
    (omega arith, scatter_next a.src.now a.out.now l.out a.k a.m a.c l.i (omega arith) h l.invariant.1)
