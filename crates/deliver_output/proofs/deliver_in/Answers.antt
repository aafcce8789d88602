-- `deliver_output::deliver_in` meets its contract.
-- Assumes nothing.
use mathlib.Core.Path.{sym, ◌∙◌}
use native.Mathlib.Omega.{arith}
use lib.ListN.{length, length-take}
use Rattle.std.proofs.lemmas.Bool.{not-false, not-true}
use Rattle.octets.specs.Bytes.{part}
use Rattle.octets.proofs.Sames.{same_pointwise}
use Rattle.table.proofs.Within.{within}
use Rattle.code.specs.Block.{block_message}
use Rattle.code_encode.specs.Message.{fragment_for}
use Rattle.code_through.specs.Through.{block_through}
use Rattle.deliver.proofs.Weighed.{whole}
use Rattle.deliver.proofs.Delivering.{left_void, fragments_anew, root_differs, root_same}
use Rattle.deliver_output.proofs.deliver_in.Goals as goal

pub returns-in_default : goal.returns-in_default
returns-in_default c =
    let a = c.args in
    let p = c.requires in
    λ fragment f.
    let w = whole a.kept.now.area.now a.kept.now.s a.kept.now.points.now p.10 a.kept.now.bytes.1 a.kept.now.bytes.0 a.len fragment f a.kept.now.ready.some in
    left_void a.out.now _ ((c.in_default.ensures.read _ w).2 a.root.now)

pub fresh_root-requires : goal.fresh_root-requires
fresh_root-requires c =
    let begin = c.begin in
    let p = c.requires in
    let w = within _ c.args.b.within in
    (begin.auto.ds ∙ p.1, begin.auto.ws ∙ p.7, begin.auto.sum ∙ p.8, p.2, p.3, w.one, w.few, omega (arith, begin.auto.room, p.9))

pub slice_bounds-ne-end-2 : goal.slice_bounds-ne-end-2
slice_bounds-ne-end-2 c = simp length-take (omega (arith, c.fresh_root.auto.stack, c.begin.auto.room, c.requires.9))

pub returns-then-ne : goal.returns-then-ne
unfolding part
returns-then-ne c =
    let begin = c.begin in
    let stack = c.fresh_root.new.stack in
    let a = c.args in
    let p = c.requires in
    λ fragment f.
    let w = whole a.kept.now.area.now a.kept.now.s a.kept.now.points.now p.10 a.kept.now.bytes.1 a.kept.now.bytes.0 a.len fragment f a.kept.now.ready.some in
    let g = block_through a.len a.kept.now.points.now fragment in
    let k = length a.kept.now.points.now in
    let o = c.in-Some.ensures.read g w in
    let M = o.1 in
    let F = fragments_anew a.b.table a.root.now g k a.len c.in-Some.size a.b.within p.0 M.size begin.new.row o.2 p.2 M.small (begin.auto.row ∙ p.6) in
    left_void a.out.now _ (root_differs a.b.table a.root.now g k a.len c.in-Some.size a.b.within p.0 M.size begin.new.row o.2 (part 0 32 stack)
    (c.fresh_root.ensures o.0 g (fragment_for a.b.table (block_message g)) M (λ i b. F i)) (sym (same_pointwise _ _) ∙ not-true _ (sym c.ne.ensures ∙ c.if-ne.true)))

pub finish-requires : goal.finish-requires
finish-requires c =
    let begin = c.begin in
    let fresh_root = c.fresh_root in
    let p = c.requires in
    let w = within _ c.args.b.within in
    let f = c.in-Some.ensures.fits in (
      begin.auto.ds ∙ p.1,
      fresh_root.auto.ws ∙ (begin.auto.ws ∙ p.7),
      fresh_root.auto.buffer ∙ (begin.auto.sum ∙ p.8),
      p.3,
      omega (arith, f.0, w.short),
      omega (arith, f.0, p.5),
      f.1,
      omega (arith, fresh_root.auto.stack, begin.auto.room, p.9),
      p.10,
    )

pub returns : goal.returns
unfolding part
returns c =
    let begin = c.begin in
    let stack = c.fresh_root.new.stack in
    let a = c.args in
    let p = c.requires in
    λ fragment f.
    let w = whole a.kept.now.area.now a.kept.now.s a.kept.now.points.now p.10 a.kept.now.bytes.1 a.kept.now.bytes.0 a.len fragment f a.kept.now.ready.some in
    let g = block_through a.len a.kept.now.points.now fragment in
    let k = length a.kept.now.points.now in
    let o = c.in-Some.ensures.read g w in
    let M = o.1 in
    let F = fragments_anew a.b.table a.root.now g k a.len c.in-Some.size a.b.within p.0 M.size begin.new.row o.2 p.2 M.small (begin.auto.row ∙ p.6) in
    root_same a.b.table a.root.now g k a.len c.in-Some.size a.b.within p.0 M.size begin.new.row o.2 (part 0 32 stack)
    (c.fresh_root.ensures o.0 g (fragment_for a.b.table (block_message g)) M (λ i b. F i)) (sym (same_pointwise _ _) ∙ not-false _ (sym c.ne.ensures ∙ c.if-ne.false)) a.out.now c.finish.new.out (c.finish.ensures g w)
