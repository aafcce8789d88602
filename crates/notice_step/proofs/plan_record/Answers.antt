use mathlib.Core.Path.{sym, ◌∙◌}
use Rattle.std.proofs.lemmas.Result.{err_from_is_err_and}
use Rattle.octets.specs.Bytes.{pick}
use Rattle.notice.proofs.Facts.{notice_whole}
use Rattle.notice.proofs.Reading.{sort_is}
use Rattle.notice_step.specs.Planned.{by_notice_form}
use Rattle.notice_step.proofs.plan_record.Goals as goal

pub returns-then-not-is_board : goal.returns-then-not-is_board
unfolding by_notice_form pick
returns-then-not-is_board c = rw (← c.read_table.ensures, ← c.is_board.ensures, c.if-not-is_board.true, c.into.ensures)

pub returns-in_err-read_notice : goal.returns-in_err-read_notice
unfolding by_notice_form pick
returns-in_err-read_notice c =
    let w = err_from_is_err_and c.from_residual.result c.from_residual.ensures.1 in
    let z = rw c.in_err-read_notice.was at c.read_notice.ensures in
    rw (← c.read_table.ensures, ← c.is_board.ensures, c.if-not-is_board.false, w.1, w.2, ← z)

pub by_heard-requires : goal.by_heard-requires
by_heard-requires c =
    let z = rw c.in_ok-read_notice.was at c.read_notice.ensures in
    (sym c.is_board.ensures ∙ c.if-not-is_board.false, (notice_whole _ _ _ _ (sym z)).no_path)

pub returns : goal.returns
unfolding by_notice_form pick
returns c =
    let z = rw c.in_ok-read_notice.was at c.read_notice.ensures in
    rw (← c.read_table.ensures, ← c.is_board.ensures, c.if-not-is_board.false, ← z, sort_is, ← c.read_heard.ensures) c.by_heard.ensures
