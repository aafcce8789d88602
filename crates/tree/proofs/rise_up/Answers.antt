use Prim.Native.Nat.{ℕ}
use mathlib.Core.Path.{◌≡◌, sym, ap, ◌∙◌}
use native.Mathlib.Omega.{arith}
use Rattle.sha256.specs.Sha256.{sha256}
use Rattle.tree.specs.Tree.{Tree, climb}
use Rattle.tree.specs.Check.{node_of}
use Rattle.tree.specs.Levels.{around}
use Rattle.tree.proofs.Lifts.{climb_none}
use Rattle.tree.proofs.Spans.{around_all, depth_least}
use Rattle.tree.proofs.rise_up.Goals as goal

pub loop-d-init : goal.loop-d-init
loop-d-init c =
    let a = c.args in
    (omega arith, sym (depth_least a.n a.i), omega arith, omega arith, λ f h. h ∙ sym (climb_none a.n a.i sha256 (node_of a.path.now) f))

pub returns : goal.returns
returns c =
    let l = c.loop-d in
    let a = c.args in
    let e : l.d ≡ 6 = omega arith in (
      l.invariant.2,
      l.invariant.3,
      λ f h. l.invariant.4 f h
          ∙ ap (λ (d : ℕ). climb sha256 (node_of a.path.now) (around a.n d a.i) a.i f) e
          ∙ ap (λ (t : Tree). climb sha256 (node_of a.path.now) t a.i f) (around_all a.n a.i (omega arith) (omega arith)),
    )
