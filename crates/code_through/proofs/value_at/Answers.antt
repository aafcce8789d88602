use mathlib.Core.Path.{sym, ap, ◌∙◌}
use native.Mathlib.Omega.{arith}
use lib.ListN.{get_or}
use Rattle.field.specs.Field.{add, mul}
use Rattle.code.proofs.Horner.{value_none, value_next}
use Prim.Native.Nat.{ℕ, ◌-◌}
use Rattle.code_through.proofs.value_at.Goals as goal

pub loop-j-init : goal.loop-j-init
loop-j-init c = (omega arith, sym (value_none c.args.row.now c.args.z))

pub loop-j-preserved : goal.loop-j-preserved
loop-j-preserved c =
    let a = c.args in
    let l = c.loop-j in (
      omega arith,
      c.fold-v.ensures ∙ ap (λ (v : ℕ). add (get_or a.row.now (l.j - 1) 0) (mul a.z v)) l.invariant.1 ∙ sym (value_next a.row.now a.z l.j
          (omega arith) l.invariant.0),
    )
