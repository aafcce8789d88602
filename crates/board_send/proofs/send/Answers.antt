-- `board_send::send` meets its contract.
-- Assumes nothing.
use mathlib.Core.Path.{sym, ap, ◌∙◌}
use native.Mathlib.Nat as N
use native.Mathlib.Omega.{arith}
use Rattle.std.proofs.lemmas.Result.{err_from_is_err_and}
use Rattle.table.specs.Table.{k_of}
use Rattle.table.proofs.Within.{within}
use Rattle.board_send.proofs.Taken.{send_taken, send_refused_by, send_made}
use Rattle.board_send.proofs.send.Goals as goal

pub returns-in_err-c : goal.returns-in_err-c
returns-in_err-c c =
    let p = err_from_is_err_and c.from_residual.result c.from_residual.ensures.1 in
    rw (p.1, p.2) (send_refused_by _ _ _ _ c.in_err-c.field-0.0 c.in_err-c.ensures.number)

pub overflow_sub-to : goal.overflow_sub-to
overflow_sub-to c = (send_taken _ _ _ _ (sym c.in_ok-c.ensures.number)).low

pub put_record-len-requires : goal.put_record-len-requires
put_record-len-requires c =
    let t = send_taken _ _ _ _ (sym c.in_ok-c.ensures.number) in
    let w = within _ t.limited in
    let k = c.fragments_needed.ensures in
    (N.le_trans t.fits w.short, k.1, k.3, w.few, omega (arith, t.low, t.high), t.room)

pub returns : goal.returns
returns c =
    let put_record = c.put_record-len in
    send_made _ _ _ _ _ _ _ (sym c.in_ok-c.ensures.number) (c.fragments_needed.ensures.0 ∙ ap k_of c.in_ok-c.ensures.table) put_record.ensures.0 put_record.ensures.1
