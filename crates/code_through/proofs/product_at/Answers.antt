use native.Mathlib.Omega.{arith}
use mathlib.Core.Path.{sym, ap₂, ◌∙◌}
use Rattle.field.specs.Field.{mul}
use Rattle.code_through.proofs.Weights.{differences_none, differences_next}
use Rattle.code_through.proofs.product_at.Goals as goal

pub loop-j-init : goal.loop-j-init
loop-j-init c = (omega arith, sym (differences_none c.args.points.now c.args.z))

pub loop-j-preserved : goal.loop-j-preserved
loop-j-preserved c =
    let a = c.args in let l = c.loop-j in (omega arith, c.product-v.ensures ∙ ap₂ mul c.add.ensures l.invariant.1 ∙ sym (differences_next a.points.now a.z l.j (omega arith) l.invariant.0))
