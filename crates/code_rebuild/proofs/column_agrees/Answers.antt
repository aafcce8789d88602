use mathlib.Core.Path.{sym, ◌∙◌}
use native.Mathlib.Omega.{arith}
use Rattle.code.proofs.Lists.{false≢true}
use Rattle.code_through.proofs.Same.{same_in_lists, same_in_slices}
use Rattle.code_through.proofs.Columns.{sums_next, sums_back}
use Rattle.code_rebuild.proofs.column_agrees.Goals as goal

pub loop-c-preserved : goal.loop-c-preserved
loop-c-preserved c =
    let a = c.args in
    let l = c.loop-c in
    let g = c.combine in (
      omega (arith, c.min-n.ensures),
      sums_next a.area.now a.s a.points.now a.ws.now a.z l.c c.min-n.result g.new.sum c.place-from.result
          c.place-from.ensures g.ensures
          (same_in_lists g.new.sum a.area.now c.place-from.result c.min-n.result (omega (arith, c.min-n.ensures, g.auto.sum)) (c.same_bytes.ensures.yes c.if-not-same_bytes.false)) l.invariant.1,
    )

pub returns-then-not-same_bytes : goal.returns-then-not-same_bytes
returns-then-not-same_bytes c =
    let a = c.args in
    let l = c.loop-c in
    let g = c.combine in
    let n = c.min-n in
    let p = c.place-from in record {
      yes = λ e. absurd (false≢true e);
      no = λ e all. false≢true (sym c.if-not-same_bytes.true ∙ c.same_bytes.ensures.no
          (same_in_slices g.new.sum a.area.now p.result n.result (omega (arith, n.ensures, g.auto.sum))
          (sums_back a.area.now a.s a.points.now a.ws.now a.z l.c n.result g.new.sum p.result
          p.ensures g.ensures (λ d h. all d (omega (arith, n.ensures))))));
    }
