use native.Mathlib.Omega.{arith}
use lib.ListN.{length}
use Rattle.code_through.proofs.Columns.{column_next, scattered_front}
use Rattle.code_rebuild.proofs.write_column.Goals as goal

pub loop-c-preserved : goal.loop-c-preserved
loop-c-preserved c =
    let a = c.args in
    let n = c.min-n.ensures in
    let l = c.loop-c in
    let f = c.scatter in
    let g = c.combine in (
      omega (arith, n),
      column_next a.area.now a.s a.points.now a.ws.now (length a.points.now) a.m l.c c.min-n.result
          g.new.sum a.out.now l.out f.new.out l.invariant.1 (scattered_front c.min-n.result g.new.sum (omega (arith, n, g.auto.sum)) f.ensures) g.ensures,
    )
