use mathlib.Core.Path.{◌≡◌, refl, sym, subst}
use Prim.Native.Nat.{ℕ, ◌<◌}
use native.Mathlib.Omega.{arith}
use lib.ListN.{length, get_or}
use Rattle.field.specs.Field.{double}
use Rattle.field.proofs.Laws.{double_lt}
use Rattle.code_encode.proofs.Sums.{below_seven}
use Rattle.code_encode.proofs.Patches.{sized}
use Rattle.code_encode.proofs.Bitwise.{owing_start, owing_bit, owing_next, owing_end}
use Rattle.code_encode.proofs.add_column.Goals as goal

pub loop-b-init : goal.loop-b-init
loop-b-init c =
    let a = c.args in (
      omega arith,
      λ d h. omega (arith, c.type_inv.column d),
      owing_start a.at (length a.powers.now) a.s (length a.column.now) a.powers.now a.column.now a.area.now,
    )

pub returns-then-most-b-lt2 : goal.returns-then-most-b-lt2
returns-then-most-b-lt2 c =
    let largest = c.largest-most in let a = c.args in let l = c.loop-b in
    let marked = sized a.at _ _ a.s _ _ _ l.area c.add_marked.new.area refl l.auto.column c.add_marked.ensures in
    owing_end a.at (length a.powers.now) a.s (length a.column.now) a.powers.now a.column.now a.area.now l.b largest.result l.column c.add_marked.new.area largest.ensures (omega arith)
    (owing_bit a.at (length a.powers.now) a.s (length a.column.now) a.powers.now a.column.now a.area.now l.b l.column l.area c.add_marked.new.area (λ i. omega (arith, c.type_inv.powers i)) l.invariant.1 l.invariant.2 marked)

pub loop-b-preserved : goal.loop-b-preserved
loop-b-preserved c =
    let add_marked = c.add_marked in let a = c.args in
    let l = c.loop-b in let doubled = c.double_all.new.s in
    let marked = sized a.at _ _ a.s _ _ _ l.area add_marked.new.area refl l.auto.column add_marked.ensures in
    let more : l.b < 7 = below_seven c.largest-most.result l.b (omega arith) l.invariant.0 (omega arith) in
    let twice : (d : ℕ) → d < length a.column.now → get_or doubled d 0 ≡ double (get_or l.column d 0) = λ d h. c.double_all.ensures d (omega (arith, l.auto.column)) in (
      omega arith,
      λ d h. subst (λ (v : ℕ). v < 256) (sym (twice d h)) (double_lt (get_or l.column d 0) (l.invariant.1 d h)),
      owing_next a.at (length a.powers.now) a.s (length a.column.now) a.powers.now a.column.now a.area.now l.b l.column doubled add_marked.new.area twice
          (owing_bit a.at (length a.powers.now) a.s (length a.column.now) a.powers.now a.column.now a.area.now l.b l.column l.area add_marked.new.area (λ i. omega (arith, c.type_inv.powers i)) l.invariant.1 l.invariant.2 marked),
    )
