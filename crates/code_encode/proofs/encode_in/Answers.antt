use mathlib.Core.Path.{◌≡◌, ◌∙◌, subst}
use Prim.Native.Nat.{ℕ, suc, ◌+◌}
use native.Mathlib.Omega.{arith}
use native.Mathlib.Nat as N
use lib.ListN.{length}
use lib.Seq.{length-take-le}
use Rattle.code.specs.Code.{fragment_byte}
use Rattle.code.specs.Block.{rows, block}
use Rattle.code.proofs.Blocks.{not_more}
use Rattle.code_encode.specs.Patch.{Patch}
use Rattle.code_encode.proofs.Patches.{patch_join, sized}
use Rattle.code_encode.proofs.encode_in.Goals as goal

pub next_rows-c-requires : goal.next_rows-c-requires
next_rows-c-requires c =
    let a = c.args in
    let p = c.requires in
    let l = c.loop-done in
    let size = rows a.k (length a.message.now) in (
      omega arith,
      omega (arith, c.min-n.ensures, p.6),
      omega (arith, c.min-n.ensures),
      omega (arith, c.row_count-size.ensures, not_more a.k p.1 a.message.now, N.mul-le-mul_left size p.1, N.mul-one size, p.0, p.2),
    )

pub overflow_add-at : goal.overflow_add-at
overflow_add-at c =
    let a = c.args in
    let p = c.requires in
    let size = rows a.k (length a.message.now) in
    omega (arith, c.next_rows-c.ensures.0, c.loop-done.invariant.0, c.row_count-size.ensures, not_more a.k p.1 a.message.now, N.mul-le-mul_left size p.1, N.mul-one size, p.0, p.2, p.5)

pub loop-done-preserved : goal.loop-done-preserved
loop-done-preserved c =
    let next_rows = c.next_rows-c in let a = c.args in
    let p = c.requires in let l = c.loop-done in
    let e = c.encode_rows in let r = next_rows.ensures in
    let len = l.auto.column ∙ length-take-le c.min-n.result a.column.now (omega (arith, c.min-n.ensures)) in (
      r.2,
      patch_join a.at (length a.powers.now) a.s l.done next_rows.result c.min-n.result (λ i d. fragment_byte a.k (block a.k a.message.now) (suc (a.first + i)) d) a.area.now l.area
          e.new.area r.0 (omega (arith, r.1)) (omega (arith, r.2, c.row_count-size.ensures, p.4)) l.invariant.1 (sized (a.at + next_rows.result) _ _ a.s _ _ _ l.area e.new.area l.auto.powers len e.ensures),
    )

pub returns : goal.returns
returns c =
    let a = c.args in
    let l = c.loop-done in
    let e : l.done ≡ rows a.k (length a.message.now) = omega (arith, c.row_count-size.ensures) in
    subst (λ (n : ℕ). Patch a.at (length a.powers.now) a.s n (λ i d. fragment_byte a.k (block a.k a.message.now) (suc (a.first + i)) d) a.area.now l.area) e l.invariant.1
