use Prim.Native.Nat.{ℕ}
use mathlib.Core.Path.{◌≡◌, ap, ◌∙◌}
use native.Mathlib.Omega.{arith}
use Rattle.tree.specs.Tree.{depth}
use Rattle.tree.specs.Levels.{around, middle}
use Rattle.tree.proofs.Spans.{depth_more, depth_alone, depth_least}
use Rattle.tree.proofs.nodes.Goals as goal
use Rattle.tree.proofs.nodes.Goals.{then-middle_of-n, else-middle_of-n}

pub loop-e-init : goal.loop-e-init
loop-e-init c = (omega arith, omega (arith, depth_least c.args.n c.args.i), omega arith)

pub loop-e-preserved : goal.loop-e-preserved
loop-e-preserved c =
    let a = c.args in
    let e = c.loop-e.e in
    let m : c.middle_of.result ≡ middle e a.i = c.middle_of.ensures.0 in
    elim c.if-middle_of-n.branch [
      | then-middle_of-n w ↦ (omega arith, omega (arith, depth_more a.n e a.i (omega arith)), omega arith)
      | else-middle_of-n w ↦ (omega arith, omega (arith, depth_alone a.n e a.i (omega arith) (omega arith)), omega arith)
    ]

pub returns : goal.returns
returns c =
    let a = c.args in
    let l = c.loop-e in
    let e : l.e ≡ a.d = omega arith in
    (l.invariant.1 ∙ ap (λ (d : ℕ). depth (around a.n d a.i) a.i) e, omega arith)
