use native.Mathlib.Omega.{arith}
use mathlib.Core.Path.{ap, ◌∙◌}
use lib.ListN.{get_or}
use Rattle.field.specs.Field.{mul}
use Rattle.octets.proofs.Walk.{next}
use Rattle.code_through.proofs.Weights.{weighed_point}
use Rattle.code_through.proofs.weigh.Goals as goal

pub loop-j-preserved : goal.loop-j-preserved
loop-j-preserved c =
    let a = c.args in let l = c.loop-j in (
      omega arith,
      next _ _ l.j l.ws _ l.invariant.1 (omega (arith, l.invariant.1.size, c.requires.1))
          (weighed_point (get_or a.points.now l.j 0) a.z (get_or a.ds.now l.j 0) a.at (get_or a.ws.now l.j 0) c.product-in-loop-j.result.0 c.own.result.0 c.add.result.0 c.add.ensures
          (c.product-in-loop-j.ensures ∙ ap (mul (get_or a.ds.now l.j 0)) (c.product.ensures ∙ ap (mul a.at) (l.invariant.1.rest l.j (omega arith)))) c.own.ensures.0 c.own.ensures.1),
    )
