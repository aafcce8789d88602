use mathlib.Core.Path.{◌≡◌, refl, sym, ap, ◌∙◌}
use mathlib.Core.List.{List}
use Prim.Native.Nat.{ℕ, ◌+◌}
use native.Mathlib.Omega.{arith}
use lib.ListN.{length}
use Rattle.octets.specs.Bytes.{part}
use Rattle.octets.proofs.Laws.{part_range}
use Rattle.octets.proofs.Puts.{part_put}
use Rattle.code.proofs.Blocks.{length_fragment}
use Rattle.tree_stack.proofs.Stacks.{risen_first, risen_next}
use Rattle.board_send.specs.Laying.{fragments}
use Rattle.board_send.proofs.Rooms.{alike_start, alike_next}
use Rattle.board_send.proofs.run_in.Goals as goal

pub loop-j-init : goal.loop-j-init
loop-j-init c = (omega arith, refl, refl, alike_start _ _ _, risen_first _ _ _ c.requires.1)

pub loop-j-preserved : goal.loop-j-preserved
loop-j-preserved c =
    let put_fragment = c.put_fragment in let a = c.args in let l = c.loop-j in
    let p = a.cut.now.room in let fs : ℕ → List ℕ = λ j. fragments a.cut.now.k a.cut.now.message.now (a.a + j) in let f = fragments a.cut.now.k a.cut.now.message.now (a.a + l.j) in
    let size : length f ≡ a.cut.now.len = length_fragment a.cut.now.k p.some a.cut.now.message.now _ ∙ sym p.size in (
      omega arith,
      put_fragment.auto.area ∙ l.invariant.1,
      c.add_leaf.auto.stack ∙ l.invariant.2,
      alike_next a.cut.now.at a.cut.now.len f l.out a.out.now put_fragment.new.area size put_fragment.ensures l.invariant.3,
      risen_next a.c fs l.j c.add_leaf.new.stack (c.add_leaf.ensures fs (part_range a.cut.now.at a.cut.now.len put_fragment.new.area ∙ ap (part a.cut.now.at a.cut.now.len) put_fragment.ensures ∙ part_put a.cut.now.at a.cut.now.len f l.out size (omega (arith, c.requires.0, l.invariant.1))) (l.invariant.4.waits c.loop-j-test.true)),
    )
