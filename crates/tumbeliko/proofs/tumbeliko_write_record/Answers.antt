use mathlib.Core.Path.{sym, ap, ◌∙◌}
use native.Mathlib.Omega.{arith}
use Rattle.record.proofs.PartLaws.{form_short}
use Rattle.record.specs.Kinds.{read_as}
use Rattle.tumbeliko.proofs.Records.{write_short, write_faulty, write_fits, write_made}
use Rattle.tumbeliko.proofs.tumbeliko_write_record.Goals as goal

pub returns-then-out-lt-OUT_BYTES : goal.returns-then-out-lt-OUT_BYTES
returns-then-out-lt-OUT_BYTES c = rw c.answered.ensures (write_short _ _ _ _ _ c.if-out-lt-OUT_BYTES.true)

pub write_parts-requires : goal.write_parts-requires
write_parts-requires c =
    let a = c.args in let room = c.if-out-lt-OUT_BYTES.false in let e = sym c.form_of.ensures ∙ ap read_as c.in-Ok.is in
    write_fits a.kind a.root.now a.path.now a.fragment.now a.out.now room _ _ _ e

pub overflow_mul-o : goal.overflow_mul-o
overflow_mul-o c = omega (arith, form_short _ _ _ _ _ _ _ (sym c.form_of.ensures ∙ ap read_as c.in-Ok.is))

pub overflow_add-o : goal.overflow_add-o
overflow_add-o c = omega (arith, form_short _ _ _ _ _ _ _ (sym c.form_of.ensures ∙ ap read_as c.in-Ok.is))

pub overflow_add-o-in-Ok : goal.overflow_add-o-in-Ok
overflow_add-o-in-Ok c = omega (arith, form_short _ _ _ _ _ _ _ (sym c.form_of.ensures ∙ ap read_as c.in-Ok.is))

pub overflow_cast-o : goal.overflow_cast-o
overflow_cast-o c = omega (arith, form_short _ _ _ _ _ _ _ (sym c.form_of.ensures ∙ ap read_as c.in-Ok.is))

pub returns-in-Err : goal.returns-in-Err
returns-in-Err c =
    let a = c.args in let room = c.if-out-lt-OUT_BYTES.false in
    rw (c.answered-in-Err.ensures, c.number.ensures.0) (write_faulty a.kind a.root.now a.path.now a.fragment.now a.out.now room _ _ (sym c.form_of.ensures ∙ ap read_as c.in-Err.is))

pub returns-in-Ok : goal.returns-in-Ok
returns-in-Ok c =
    let a = c.args in let room = c.if-out-lt-OUT_BYTES.false in let e = sym c.form_of.ensures ∙ ap read_as c.in-Ok.is in
    rw c.answered-in-Ok.ensures (write_made a.kind a.root.now a.path.now a.fragment.now a.out.now room _ _ _ e _ c.write_parts.ensures)
