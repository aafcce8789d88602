use borrow.Author.Rules.{rules}
use mathlib.Core.Path.{refl, ◌≡◌, ◌∙◌, subst}
use Prim.Native.Nat.{suc, ℕ, ◌+◌}
use native.Mathlib.Omega.{arith}
use lib.ListN.{length, get_or}
use Rattle.code.specs.Code.{fragment_byte}
use Rattle.code.specs.Block.{block}
use Rattle.code_encode.proofs.Patches.{patch_then, sized}
use Rattle.code_encode.proofs.Columns.{Summed, summed_first, summed_next, summed_all}
use Rattle.code_encode.proofs.encode_rows.Goals as goal

pub loop-m-init : goal.loop-m-init
loop-m-init c =
    let gather = c.gather in let lay_column = c.lay_column in
    let a = c.args in let p = c.requires in
    (omega (arith, p.1), summed_first a.k p.1 a.message.now a.first (length a.powers.now) a.at a.s a.c (length a.column.now) p.5 a.area.now gather.new.column c.start_powers.new.powers lay_column.new.area p.3 gather.ensures (sized a.at _ _ a.s _ _ _ a.area.now lay_column.new.area refl gather.auto.column lay_column.ensures) c.start_powers.ensures)

pub loop-m-preserved : goal.loop-m-preserved
loop-m-preserved c =
    let gather2 = c.gather-in-loop-m in let add_column = c.add_column in
    let loop_test = c.loop-m-test in
    let a = c.args in
    let p = c.requires in
    let l = c.loop-m in
    let count = l.auto.powers ∙ c.start_powers.auto.powers in
    let n = l.auto.column ∙ c.gather.auto.column in (
      omega (arith, loop_test.true),
      summed_next a.k p.1 a.message.now a.first (length a.powers.now) a.at a.s a.c (length a.column.now) p.5 c.lay_column.new.area
          l.m gather2.new.column l.powers c.raise_powers.new.powers l.area add_column.new.area (omega (arith, loop_test.true)) l.invariant.1 (λ d h. gather2.ensures d (omega (arith, n)))
          (λ d. search rules) (sized a.at _ _ a.s _ _ _ l.area add_column.new.area count (gather2.auto.column ∙ n) add_column.ensures)
          (λ i h. c.raise_powers.ensures i (omega (arith, count))),
    )

pub returns : goal.returns
returns c =
    let lay_column = c.lay_column in let a = c.args in
    let p = c.requires in let l = c.loop-m in let laid = lay_column.new.area in let e : l.m ≡ a.k = omega arith in
    patch_then a.at (length a.powers.now) a.s (length a.column.now) (λ i d. get_or c.gather.new.column d 0) a.area.now (λ i d. fragment_byte a.k (block a.k a.message.now) (suc (a.first + i)) (a.c + d)) laid l.area
    (sized a.at _ _ a.s _ _ _ a.area.now laid refl c.gather.auto.column lay_column.ensures) (summed_all a.k p.1 a.message.now a.first (length a.powers.now) a.at a.s a.c (length a.column.now) p.5 laid l.powers l.area (subst (λ (m : ℕ). Summed a.k a.message.now a.first (length a.powers.now) a.at a.s a.c (length a.column.now) laid m l.powers l.area) e l.invariant.1))
