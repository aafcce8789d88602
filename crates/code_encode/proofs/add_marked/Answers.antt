use mathlib.Core.Path.{ap}
use Prim.Native.Nat.{ℕ, ◌+◌, ◌*◌, ◌/◌, ◌%◌, ◌^◌, ◌<◌}
use native.Mathlib.Omega.{arith}
use lib.ListN.{length, get_or}
use Rattle.field.specs.Field.{add}
use Rattle.code_encode.specs.Patch.{plus_bit}
use Rattle.code_encode.proofs.Patches.{filled_as, untouched, patch_next}
use Rattle.code_encode.proofs.add_marked.Goals as goal

pub loop-i-preserved : goal.loop-i-preserved
loop-i-preserved c =
    let a2 = c.args in let p = c.requires in let a = a2 in let l = c.loop-i in let f = c.add_bit in let h : l.i < length a.powers.now = omega arith in
    let bit = get_or a.powers.now l.i 0 / 2 ^ a.b % 2 in (
      omega arith,
      patch_next a.at a.s (length a.column.now) (plus_bit a.at a.s a.b a.powers.now a.column.now a.area.now) a.area.now l.area f.new.area l.i p.0.0 l.invariant.1
          (filled_as (a.at + l.i * a.s) (length a.column.now) (λ d. add (get_or l.area (a.at + l.i * a.s + d) 0) (bit * get_or a.column.now d 0)) (plus_bit a.at a.s a.b a.powers.now a.column.now a.area.now l.i) l.area f.new.area f.ensures
          (λ d b. ap (λ (v : ℕ). add v (bit * get_or a.column.now d 0)) (untouched a.at a.s (length a.column.now) (plus_bit a.at a.s a.b a.powers.now a.column.now a.area.now) a.area.now l.area f.new.area l.i p.0.0 l.invariant.1 d))),
    )
