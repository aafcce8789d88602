use mathlib.Core.Path.{◌≡◌}
use mathlib.Core.Bool.{◌&&◌, not}
use native.Mathlib.Omega.{arith}
use Rattle.std.proofs.lemmas.Grind.{common_steps}
use Rattle.record.specs.Kinds.{kind_number}
use Rattle.table.proofs.Within.{board_number}
use Rattle.notice_step.proofs.Settles.{taken_compares, takes_in}
use Rattle.notice_step.proofs.Taken.{notice_taken_lem, taken_place, taken_sounds}
use Rattle.notice_step.proofs.take_in.Goals as goal

pub read_table-requires : goal.read_table-requires
read_table-requires c =
    let args = c.args in
    let pre = c.requires in
    let t = notice_taken_lem args.s.now args.from args.r.now args.out.now pre.0 (kind_number args.o.kind) pre.1.0 args.o.len pre.1.1 in
    t.long

pub read_heard-requires : goal.read_heard-requires
read_heard-requires c =
    let args = c.args in
    let pre = c.requires in
    let t = notice_taken_lem args.s.now args.from args.r.now args.out.now pre.0 (kind_number args.o.kind) pre.1.0 args.o.len pre.1.1 in
    t.long

pub overflow_sub-from : goal.overflow_sub-from
overflow_sub-from c =
    let args = c.args in
    let pre = c.requires in
    let t = notice_taken_lem args.s.now args.from args.r.now args.out.now pre.0 (kind_number args.o.kind) pre.1.0 args.o.len pre.1.1 in
    let i = board_number _ _ t.board in omega arith

pub hear-m-requires : goal.hear-m-requires
hear-m-requires c =
    let args = c.args in
    let pre = c.requires in
    let t = notice_taken_lem args.s.now args.from args.r.now args.out.now pre.0 (kind_number args.o.kind) pre.1.0 args.o.len pre.1.1 in
    taken_place t

pub overflow_sub-from-2 : goal.overflow_sub-from-2
overflow_sub-from-2 c =
    let args = c.args in
    let pre = c.requires in
    let t = notice_taken_lem args.s.now args.from args.r.now args.out.now pre.0 (kind_number args.o.kind) pre.1.0 args.o.len pre.1.1 in
    let i = board_number _ _ t.board in omega arith

pub keep_notice-requires : goal.keep_notice-requires
keep_notice-requires c =
    let args = c.args in
    let pre = c.requires in
    let t = notice_taken_lem args.s.now args.from args.r.now args.out.now pre.0 (kind_number args.o.kind) pre.1.0 args.o.len pre.1.1 in
    let q = taken_compares t in (t.long, taken_place t, q.most, q.room)

pub invariant_of-b : goal.invariant_of-b
invariant_of-b c =
    let args = c.args in
    let pre = c.requires in
    let t = notice_taken_lem args.s.now args.from args.r.now args.out.now pre.0 (kind_number args.o.kind) pre.1.0 args.o.len pre.1.1 in
    record { within = rw c.read_table.ensures (taken_sounds t).lim }

pub invariant_of-asked : goal.invariant_of-asked
invariant_of-asked c =
    let args = c.args in
    let pre = c.requires in
    let t = notice_taken_lem args.s.now args.from args.r.now args.out.now pre.0 (kind_number args.o.kind) pre.1.0 args.o.len pre.1.1 in
    let q = rw (← c.keep_notice.ensures, ← c.read_table.ensures) at (taken_compares t) in record { long = q.long; most = q.most; room = q.room; count = q.count; echoes = q.echoes; votes = q.votes }

pub write_heard-requires : goal.write_heard-requires
write_heard-requires c =
    let args = c.args in
    let pre = c.requires in
    let t = notice_taken_lem args.s.now args.from args.r.now args.out.now pre.0 (kind_number args.o.kind) pre.1.0 args.o.len pre.1.1 in
    rw c.keep_notice.ensures (taken_compares t).long

pub put_out-requires : goal.put_out-requires
put_out-requires c =
    let args = c.args in
    let pre = c.requires in
    let t = notice_taken_lem args.s.now args.from args.r.now args.out.now pre.0 (kind_number args.o.kind) pre.1.0 args.o.len pre.1.1 in
    let q = taken_compares t in (t.out, q.most, q.room)

pub returns : goal.returns
returns c =
    let args = c.args in
    let pre = c.requires in
    let t = notice_taken_lem args.s.now args.from args.r.now args.out.now pre.0 (kind_number args.o.kind) pre.1.0 args.o.len pre.1.1 in
    let v : c.if-not-m.put_out ≡ (not c.hear-m.result.voted && c.settle-after.result.voted) = grind (arith, common_steps) in
    takes_in t c.settle-after.result c.keep_notice.new.s c.write_heard.new.s c.put_out.new.out c.put_out.result c.keep_notice.ensures
    (rw (← c.read_table.ensures, ← c.read_heard.ensures, ← c.hear-m.ensures, ← c.is_send.ensures) c.settle-after.ensures) c.write_heard.ensures
    (rw (← c.read_heard.ensures, ← c.hear-m.ensures, ← c.is_send-2.ensures, ← v) c.put_out.ensures.0)
    (rw (← c.read_heard.ensures, ← c.hear-m.ensures, ← c.is_send-2.ensures, ← v) c.put_out.ensures.1)
