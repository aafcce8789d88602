-- `board_send::put_node` meets its contract.
-- Assumes nothing.
use mathlib.Core.Path.{ap, ◌∙◌}
use native.Mathlib.Omega.{arith}
use lib.ListN.{length-take}
use Prim.Native.Nat.{ℕ, ◌+◌, ◌*◌, ◌<◌}
use Rattle.octets.specs.Bytes.{part}
use Rattle.tree.specs.Levels.{middle}
use Rattle.tree.proofs.Runs.{beside_low, beside_root}
use Rattle.board_send.specs.Laying.{fragments}
use Rattle.board_send.proofs.Levels.{node_fits, laid_alone, laid_more}
use Rattle.board_send.proofs.put_node.Goals as goal

pub returns-then-n-middle_of : goal.returns-then-n-middle_of
returns-then-n-middle_of c = λ old l. laid_alone _ _ _ _ _ old _ _ c.requires.2 (omega arith) l

pub leaf_count-c-requires : goal.leaf_count-c-requires
leaf_count-c-requires c =
    let pre = c.requires in let a = c.args in let h : middle a.d a.i < a.n = omega (arith, c.middle_of.ensures.0) in (pre.1, omega (arith, beside_low a.n a.d a.i pre.2 h, c.beside_of-a.ensures), omega (arith, pre.3))

pub slice_bounds-copy_at-end-2 : goal.slice_bounds-copy_at-end-2
slice_bounds-copy_at-end-2 c = simp length-take (omega (arith, c.requires.5, c.run_in.auto.stack))

pub copy_at-requires : goal.copy_at-requires
copy_at-requires c =
    let pre = c.requires in
    let a = c.args in
    let h : middle a.d a.i < a.n = omega (arith, c.middle_of.ensures.0, c.if-n-middle_of.false) in
    simp length-take (omega (arith, node_fits a.n a.i a.d pre.1 pre.2 pre.3 h, pre.4, pre.0, c.nodes.ensures.0, c.run_in.auto.out, pre.5, c.run_in.auto.stack))

pub returns : goal.returns
unfolding part
returns c =
    let run_in = c.run_in in let beside_of = c.beside_of-a in
    let leaf_count = c.leaf_count-c in let nodes = c.nodes in
    let pre = c.requires in
    let a = c.args in
    let h : middle a.d a.i < a.n = omega (arith, c.middle_of.ensures.0, c.if-n-middle_of.false) in
    λ old l.
    laid_more a.n (fragments a.cut.now.k a.cut.now.message.now) a.i a.cut.now.at a.cut.now.len old a.d (37 + 32 * nodes.result) (part 0 32 run_in.new.stack) a.out.now run_in.new.out c.copy_at.new.dst h (ap (λ (x : ℕ). 37 + 32 * x) nodes.ensures.0)
    (omega (arith, node_fits a.n a.i a.d pre.1 pre.2 pre.3 h, pre.4, nodes.ensures.0)) (run_in.ensures.0 ∙ beside_root a.n (fragments a.cut.now.k a.cut.now.message.now) a.d a.i beside_of.result leaf_count.result pre.1 pre.3 pre.2 h beside_of.ensures leaf_count.ensures.0)
    run_in.ensures.1 c.copy_at.ensures l
