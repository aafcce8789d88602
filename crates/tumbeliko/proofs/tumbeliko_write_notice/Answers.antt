use mathlib.Core.Path.{sym, ap, ◌∙◌}
use native.Mathlib.Omega.{arith}
use Rattle.notice.proofs.Facts.{notice_known}
use Rattle.notice.specs.Kinds.{notice_read_as}
use Rattle.tumbeliko.proofs.Notices.{notice_small, notice_faulty, notice_fits, notice_made}
use Rattle.tumbeliko.proofs.tumbeliko_write_notice.Goals as goal

pub returns-then-out-lt-OUT_BYTES : goal.returns-then-out-lt-OUT_BYTES
returns-then-out-lt-OUT_BYTES c = rw c.answered.ensures (notice_small _ _ _ c.if-out-lt-OUT_BYTES.true)

pub write_notice-requires : goal.write_notice-requires
write_notice-requires c =
    let a = c.args in
    notice_fits a.kind a.notice.now a.out.now c.if-out-lt-OUT_BYTES.false _ _ _ (sym c.form_of.ensures ∙ ap notice_read_as c.in-Ok.is)

pub overflow_add-o : goal.overflow_add-o
overflow_add-o c =
    let w = notice_known _ _ _ _ _ (sym c.form_of.ensures ∙ ap notice_read_as c.in-Ok.is) in
    omega (arith, w.most, w.bytes)

pub overflow_cast-o : goal.overflow_cast-o
overflow_cast-o c =
    let w = notice_known _ _ _ _ _ (sym c.form_of.ensures ∙ ap notice_read_as c.in-Ok.is) in
    omega (arith, w.most, w.bytes)

pub returns-in-Err : goal.returns-in-Err
returns-in-Err c =
    let a = c.args in
    rw (c.answered-in-Err.ensures, c.number.ensures.0)
    (notice_faulty a.kind a.notice.now a.out.now c.if-out-lt-OUT_BYTES.false _ _ (sym c.form_of.ensures ∙ ap notice_read_as c.in-Err.is))

pub returns-in-Ok : goal.returns-in-Ok
returns-in-Ok c =
    let a = c.args in
    let e = sym c.form_of.ensures ∙ ap notice_read_as c.in-Ok.is in
    rw c.answered-in-Ok.ensures
    (notice_made a.kind a.notice.now a.out.now c.if-out-lt-OUT_BYTES.false _ _ _ e _ c.write_notice.ensures)
