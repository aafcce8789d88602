use Prim.Native.Nat.{ℕ, ◌≤◌, ◌+◌, ◌-◌}
use mathlib.Core.Path.{◌≡◌, refl, sym, ap, ◌∙◌}
use native.Mathlib.Omega.{arith}
use Rattle.octets.specs.Bytes.{part}
use Rattle.sha256.specs.Sha256.{sha256}
use Rattle.tree.specs.Tree.{tree_of, depth, Tree, climb}
use Rattle.tree.specs.Check.{node_of}
use Rattle.tree.specs.Levels.{around}
use Rattle.tree.proofs.Lifts.{climb_none}
use Rattle.tree.proofs.Spans.{depth_grows, depth_more, around_all}
use Rattle.tree_stack.specs.Stack.{top}
use Rattle.tree_stack.proofs.Stacks.{top_end}
use Rattle.tree_stack.proofs.climb_up.Goals as goal

pub loop-d-init : goal.loop-d-init
loop-d-init c = (omega arith, c.top_of-at.ensures.0, refl, λ f h. ap (λ (q : ℕ). part q 32 c.args.stack.now) c.top_of-at.ensures.0 ∙ h ∙ sym (climb_none c.args.n c.args.i sha256 (node_of c.args.path.now) f))

pub lift_beside-at-requires : goal.lift_beside-at-requires
lift_beside-at-requires c =
    let a = c.args in let p = c.requires in let d = c.loop-d.d in let top : d + 1 + (5 - d) ≡ 6 = omega arith in
    let grown : depth (around a.n (d + 1) a.i) a.i ≤ depth (around a.n 6 a.i) a.i = rw top at (depth_grows a.n a.i p.1 (d + 1) (5 - d)) in let whole : depth (around a.n 6 a.i) a.i ≡ depth (tree_of a.n) a.i = ap (λ (t : Tree). depth t a.i) (around_all a.n a.i p.0 p.1) in
    (p.0, p.1, c.loop-d-test.true, omega (arith, c.nodes.ensures.1), omega (arith, p.2, c.loop-d.invariant.2), c.loop-d.invariant.1, λ h. omega (arith, depth_more a.n d a.i h, c.nodes.ensures.0, p.3))

pub returns : goal.returns
returns c =
    let a = c.args in let p = c.requires in let l = c.loop-d in let e : l.d ≡ 6 = omega arith in
    λ f h. ap (λ (q : ℕ). part q 32 l.stack) (sym (l.invariant.1 ∙ ap (λ (d : ℕ). top d a.i) e ∙ top_end a.i (omega (arith, p.0, p.1)))) ∙ l.invariant.3 f h ∙ ap (λ (d : ℕ). climb sha256 (node_of a.path.now) (around a.n d a.i) a.i f) e ∙ ap (λ (t : Tree). climb sha256 (node_of a.path.now) t a.i f) (around_all a.n a.i p.0 p.1)
