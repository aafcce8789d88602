use mathlib.Core.Path.{ap, ◌∙◌}
use native.Mathlib.Omega.{arith}
use Rattle.field.specs.Field.{double}
use Rattle.octets.proofs.Walk.{start, next}
use Rattle.field.proofs.double_all.Goals as goal

pub loop-x-init : goal.loop-x-init
loop-x-init c = start _ _ _ (λ k h. absurd (omega arith))

pub loop-x-preserved : goal.loop-x-preserved
loop-x-preserved c =
    let l = c.loop-x in next _ _ l.x-index l.s _ l.invariant (omega arith) (c.twice.ensures ∙ ap double (l.invariant.rest l.x-index (omega arith)))

pub returns : goal.returns
returns c = λ i h. c.loop-x.invariant.done i (omega arith)
