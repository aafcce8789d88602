use Rattle.board_step.proofs.Records.{said_room}
use native.Mathlib.Omega.{arith}
use mathlib.Core.Bool.{not, ◌&&◌}
use Rattle.table.proofs.Within.{board_number}
use Rattle.board.proofs.Taken.{taken}
use Rattle.board_step.proofs.Taking.{formed, limited, number, has_room, long_still, keeps}
use Rattle.record.specs.Kinds.{kind_number}
use Rattle.board_step.proofs.take_in.Goals as goal

pub read_table-requires : goal.read_table-requires
read_table-requires c =
    let a = c.args in let p = c.requires in (taken a.s.now a.from a.r.now p.0.0 p.0.1.0 (kind_number a.o.kind) a.o.nodes a.o.len p.0.1.1).long

pub read_marks-requires : goal.read_marks-requires
read_marks-requires c =
    let a = c.args in let p = c.requires in (taken a.s.now a.from a.r.now p.0.0 p.0.1.0 (kind_number a.o.kind) a.o.nodes a.o.len p.0.1.1).long

pub overflow_sub-from : goal.overflow_sub-from
overflow_sub-from c =
    let a = c.args in let p = c.requires in let t = (taken a.s.now a.from a.r.now p.0.0 p.0.1.0 (kind_number a.o.kind) a.o.nodes a.o.len p.0.1.1) in let (one, few) = board_number _ _ t.board in omega arith

pub mark-m-requires : goal.mark-m-requires
mark-m-requires c =
    let a = c.args in let p = c.requires in number a.s.now a.from a.r.now p.0.0 p.0.1.0 (kind_number a.o.kind) a.o.nodes a.o.len (taken a.s.now a.from a.r.now p.0.0 p.0.1.0 (kind_number a.o.kind) a.o.nodes a.o.len p.0.1.1)

pub invariant_of-b : goal.invariant_of-b
invariant_of-b c =
    let a = c.args in let p = c.requires in
    record { within = rw c.read_table.ensures (limited a.s.now a.from a.r.now p.0.0 p.0.1.0 (kind_number a.o.kind) a.o.nodes a.o.len (taken a.s.now a.from a.r.now p.0.0 p.0.1.0 (kind_number a.o.kind) a.o.nodes a.o.len p.0.1.1)) }

pub overflow_sub-from-2 : goal.overflow_sub-from-2
overflow_sub-from-2 c =
    let a = c.args in let p = c.requires in let t = (taken a.s.now a.from a.r.now p.0.0 p.0.1.0 (kind_number a.o.kind) a.o.nodes a.o.len p.0.1.1) in let (one, few) = board_number _ _ t.board in omega arith

pub keep_record-requires : goal.keep_record-requires
keep_record-requires c =
    let a = c.args in let p = c.requires in
    rw (c.fragment_most.ensures.0, c.read_table.ensures) (has_room a.s.now a.from a.r.now p.0.0 p.0.1.0 (kind_number a.o.kind) a.o.nodes a.o.len (taken a.s.now a.from a.r.now p.0.0 p.0.1.0 (kind_number a.o.kind) a.o.nodes a.o.len p.0.1.1))

pub settle-after-requires : goal.settle-after-requires
settle-after-requires c =
    let a = c.args in let p = c.requires in let read_table = c.read_table in
    let w = formed a.s.now a.from a.r.now p.0.0 p.0.1.0 (kind_number a.o.kind) a.o.nodes a.o.len (taken a.s.now a.from a.r.now p.0.0 p.0.1.0 (kind_number a.o.kind) a.o.nodes a.o.len p.0.1.1) in (
      rw (c.keep_record.ensures, c.fragment_most.ensures.0, read_table.ensures) (long_still a.s.now a.from a.r.now p.0.0 p.0.1.0 (kind_number a.o.kind) a.o.nodes a.o.len (taken a.s.now a.from a.r.now p.0.0 p.0.1.0 (kind_number a.o.kind) a.o.nodes a.o.len p.0.1.1)),
      omega (arith, w.ends),
    )

pub write_marks-requires : goal.write_marks-requires
write_marks-requires c =
    let a = c.args in let p = c.requires in
    rw (c.keep_record.ensures, c.fragment_most.ensures.0, c.read_table.ensures)
    (long_still a.s.now a.from a.r.now p.0.0 p.0.1.0 (kind_number a.o.kind) a.o.nodes a.o.len (taken a.s.now a.from a.r.now p.0.0 p.0.1.0 (kind_number a.o.kind) a.o.nodes a.o.len p.0.1.1))

pub put_out-requires : goal.put_out-requires
put_out-requires c =
    let a = c.args in let p = c.requires in
    let t = taken a.s.now a.from a.r.now p.0.0 p.0.1.0 (kind_number a.o.kind) a.o.nodes a.o.len p.0.1.1 in
    let f = formed a.s.now a.from a.r.now p.0.0 p.0.1.0 (kind_number a.o.kind) a.o.nodes a.o.len t in
    (rw c.is_send-send.ensures (omega (arith, said_room a.r.now a.o.nodes a.o.len f (kind_number a.o.kind) a.good (not c.mark-m.result.voted && c.settle-after.result.voted), p.1)), f)

pub returns : goal.returns
returns c =
    let a = c.args in
    let send = c.is_send-send in
    let read_marks = c.read_marks in
    let mark = c.mark-m in
    let read_table = c.read_table in
    let keep_record = c.keep_record in let settle = c.settle-after in
    let write_marks = c.write_marks in
    keeps a.s.now a.from a.r.now a.out.now (kind_number a.o.kind) a.o.nodes a.o.len a.good settle.result keep_record.new.s write_marks.new.s c.put_out.new.out c.put_out.result
    (rw (← read_table.ensures, ← c.fragment_most.ensures.0) keep_record.ensures) (rw (← read_table.ensures, ← read_marks.ensures, ← mark.ensures, ← send.ensures) settle.ensures) write_marks.ensures
    (rw (← read_marks.ensures, ← mark.ensures, ← send.ensures) c.put_out.ensures.0) (rw (← read_marks.ensures, ← mark.ensures, ← send.ensures) c.put_out.ensures.1)
