-- `board_send::put_record` meets its contract.
-- Assumes nothing.
use mathlib.Core.Path.{◌≡◌, refl, sym, ap, ◌∙◌}
use native.Mathlib.Omega.{arith}
use Prim.Native.Nat.{ℕ, ◌+◌, ◌*◌, ◌≤◌}
use lib.ListN.{length, length-take, length-replicate}
use Rattle.octets.specs.Bytes.{part, put, two}
use Rattle.code.proofs.Blocks.{length_fragment}
use Rattle.tree.specs.Tree.{tree_of, depth}
use Rattle.tree.proofs.Spans.{depth_all}
use Rattle.board_send.specs.Laying.{fragments}
use Rattle.board_send.proofs.Rooms.{rows_few}
use Rattle.board_send.proofs.Records.{record_made, record_size}
use Rattle.board_send.proofs.put_record.Goals as goal

pub invariant_of-cut : goal.invariant_of-cut
invariant_of-cut c =
    let p = c.requires in
    let f = rows_few _ _ p.1 p.0 in
    record { room = record { short = p.0; some = p.1; few = p.2; size = c.row_count-len.ensures; most = omega (arith, f, c.row_count-len.ensures); fits = rw length-replicate (omega arith) } }

pub put_path-requires : goal.put_path-requires
put_path-requires c =
    let nodes = c.nodes-nodes in
    let p = c.requires in
    let a = c.args in
    let ep : nodes.result ≡ depth (tree_of a.n) a.i = nodes.ensures.0 ∙ depth_all a.n a.i p.3 p.4 in (
      omega (arith, rows_few _ _ p.1 p.0, c.row_count-len.ensures, nodes.ensures.1, p.5, c.copy_at.auto.dst, c.put_two.auto.s, c.put_two-2.auto.s),
      p.3,
      p.4,
      ap (λ (x : ℕ). 39 + 32 * x) ep,
      omega arith,
    )

pub put_fragment-requires : goal.put_fragment-requires
put_fragment-requires c =
    let p = c.requires in let f = rows_few _ _ p.1 p.0 in (
      p.0,
      p.1,
      p.2,
      omega (arith, p.3, p.4),
      f,
      omega (
        arith,
        f,
        c.nodes-nodes.ensures.1,
        p.5,
        c.copy_at.auto.dst,
        c.put_two.auto.s,
        c.put_two-2.auto.s,
        c.put_path.auto.out,
      ),
    )

pub root_in-requires : goal.root_in-requires
root_in-requires c =
    let nodes = c.nodes-nodes in
    let row_count = c.row_count-len in
    let put_path = c.put_path in
    let p = c.requires in
    let a = c.args in let f = rows_few _ _ p.1 p.0 in (
      p.3,
      p.4,
      nodes.ensures.0 ∙ depth_all a.n a.i p.3 p.4,
      nodes.ensures.1,
      omega (arith, f, row_count.ensures),
      omega (
        arith,
        f,
        row_count.ensures,
        nodes.ensures.1,
        p.5,
        c.copy_at.auto.dst,
        c.put_two.auto.s,
        c.put_two-2.auto.s,
        put_path.auto.out,
        c.put_fragment.auto.area,
      ),
      omega (arith, put_path.auto.stack),
    )

pub slice_bounds-copy_at-end-2 : goal.slice_bounds-copy_at-end-2
slice_bounds-copy_at-end-2 c = simp length-take (omega (arith, c.root_in.auto.stack, c.put_path.auto.stack))

pub copy_at-requires-2 : goal.copy_at-requires-2
copy_at-requires-2 c =
    simp length-take (omega (
      arith,
      c.requires.5,
      c.copy_at.auto.dst,
      c.put_two.auto.s,
      c.put_two-2.auto.s,
      c.put_path.auto.out,
      c.put_fragment.auto.area,
      c.root_in.auto.stack,
      c.put_path.auto.stack,
    ))

pub overflow_add-result : goal.overflow_add-result
overflow_add-result c =
    let p = c.requires in
    omega (
      arith,
      rows_few _ _ p.1 p.0,
      c.row_count-len.ensures,
      c.nodes-nodes.ensures.1,
    )

pub returns : goal.returns
unfolding part
returns c =
    let row_count = c.row_count-len in
    let nodes = c.nodes-nodes in
    let put_two2 = c.put_two-2 in
    let copy_at = c.copy_at in
    let put_two = c.put_two in
    let put_path = c.put_path in let put_fragment = c.put_fragment in
    let root_in = c.root_in in
    let p = c.requires in
    let a = c.args in
    let fs = fragments a.k a.message.now in let len = row_count.result in let count = nodes.result in let at = 39 + 32 * count in let o = put_two2.new.s in let used = put_path.new.out in let full = put_fragment.new.area in let f = rows_few _ _ p.1 p.0 in
    let ep : count ≡ depth (tree_of a.n) a.i = nodes.ensures.0 ∙ depth_all a.n a.i p.3 p.4 in let size : length (fs a.i) ≡ len = length_fragment a.k p.1 a.message.now _ ∙ sym row_count.ensures in
    let room : at + len ≤ length o = omega (arith, f, row_count.ensures, nodes.ensures.1, p.5, copy_at.auto.dst, put_two.auto.s, put_two2.auto.s) in (
      record_made a.n a.i fs p.3 p.4 count at len ep refl size o used full room put_path.ensures put_fragment.ensures (part 0 32 root_in.new.stack) a.out.now c.copy_at-2.new.dst
          (put_two2.ensures ∙ ap (put (37 + 32 * count) (two len)) (put_two.ensures ∙ ap (put 35 (two count)) copy_at.ensures)) root_in.ensures c.copy_at-2.ensures,
      record_size a.n a.i fs p.3 p.4 count at len ep refl size o used full room put_path.ensures put_fragment.ensures,
      omega (arith, f, row_count.ensures, nodes.ensures.1),
    )
