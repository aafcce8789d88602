use mathlib.Core.Path.{refl, sym}
use Rattle.octets.specs.Bytes.{pick}
use Rattle.board_step.proofs.Records.{put_none}
use Rattle.notice_step.specs.Asked.{said_by}
use Rattle.notice_step.proofs.Writes.{said_length, slice_notice}
use Rattle.notice_step.proofs.put_out.Goals as goal

pub returns-then-echo : goal.returns-then-echo
unfolding said_by pick
returns-then-echo c =
    let args = c.args in
    let pre = c.requires in
    rw c.if-echo.true (sym (said_length 5 args.len args.r.now pre.2), slice_notice 5 args.len args.r.now _ _ c.write_notice.ensures)

pub returns-then-vote : goal.returns-then-vote
unfolding said_by pick
returns-then-vote c =
    let args = c.args in
    let pre = c.requires in
    rw (c.if-echo.false, c.if-vote.true)
    (sym (said_length 6 args.len args.r.now pre.2), slice_notice 6 args.len args.r.now _ _ c.write_notice-then-vote.ensures)

pub returns : goal.returns
unfolding said_by pick
returns c = rw (c.if-echo.false, c.if-vote.false) (refl, sym (put_none _))
