use Prim.Native.Nat.{ℕ, ◌+◌, ◌-◌}
use mathlib.Core.Path.{◌≡◌, sym, ap, ◌∙◌}
use native.Mathlib.Omega.{arith}
use Rattle.tree.specs.Levels.{span}
use Rattle.tree.proofs.Spans.{span_alone}
use Rattle.tree_grow.proofs.fork_of.Goals as goal

pub loop-e-preserved : goal.loop-e-preserved
loop-e-preserved c =
    let a = c.args in
    let e = c.loop-e.e in
    let q : e - 1 + 1 ≡ e = omega arith in
    (omega arith, sym (span_alone a.n (e - 1) a.a (omega arith)) ∙ ap (λ (k : ℕ). span a.n k a.a) q ∙ c.loop-e.invariant.1)
