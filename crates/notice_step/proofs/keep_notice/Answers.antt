use mathlib.Core.Path.{◌∙◌}
use native.Mathlib.Omega.{arith}
use lib.ListN.{length-set}
use Rattle.octets.specs.Bytes.{pick}
use Rattle.octets.proofs.Laws.{part_range, length_part}
use Rattle.record.specs.Kinds.{kind_number}
use Rattle.notice_step.specs.Step.{kept_notice}
use Rattle.notice_step.proofs.Writes.{place_most, note_written}
use Rattle.notice_step.proofs.keep_notice.Goals as goal

pub returns-then-is_send : goal.returns-then-is_send
unfolding kept_notice pick
returns-then-is_send c = rw (← c.is_send.ensures, c.if-is_send.true)

pub bounds-s-a : goal.bounds-s-a
bounds-s-a c =
    let args = c.args in
    let pre = c.requires in
    omega (arith, c.place-a.ensures, place_most (kind_number args.kind) args.i pre.1)

pub overflow_add-a : goal.overflow_add-a
overflow_add-a c =
    let args = c.args in
    let pre = c.requires in
    omega (arith, c.place-a.ensures, place_most (kind_number args.kind) args.i pre.1)

pub copy_bytes-requires : goal.copy_bytes-requires
copy_bytes-requires c =
    let args = c.args in
    let pre = c.requires in
    rw (part_range 3 args.len args.r.now, length_part 3 args.len args.r.now pre.3)
    (simp length-set (omega (arith, c.place-a.ensures, place_most (kind_number args.kind) args.i pre.1)))

pub returns : goal.returns
unfolding kept_notice pick
returns c =
    let args = c.args in
    let pre = c.requires in
    rw (← c.is_send.ensures, c.if-is_send.false, ← c.place-a.ensures, ← part_range 3 args.len args.r.now) (c.copy_bytes.ensures ∙ note_written c.place-a.result args.len _ _)
