use mathlib.Core.Path.{sym, ◌∙◌}
use native.Mathlib.Omega.{arith}
use Rattle.octets.proofs.Laws.{part_range, length_part}
use Rattle.record.specs.Kinds.{kind_number}
use Rattle.notice_step.proofs.Leaves.{leaves_length}
use Rattle.notice_step.proofs.Settles.{taken_compares, takes_quietly, takes_delivering}
use Rattle.notice_step.proofs.Taken.{notice_taken_lem}
use Rattle.notice_step.proofs.take_record.Goals as goal

pub is_done-requires : goal.is_done-requires
is_done-requires c =
    let args = c.args in
    let pre = c.requires in
    let t = notice_taken_lem args.s.now args.from args.r.now args.out.now args.delivery.now (kind_number args.o.kind) pre.0 args.o.len pre.1 in
    rw (c.take_in-put.ensures.0, leaves_length t) t.long

pub returns-then-not-is_done : goal.returns-then-not-is_done
returns-then-not-is_done c =
    let args = c.args in
    let pre = c.requires in
    let t = notice_taken_lem args.s.now args.from args.r.now args.out.now args.delivery.now (kind_number args.o.kind) pre.0 args.o.len pre.1 in
    let x = c.take_in-put in
    rw c.answered.ensures (takes_quietly t x.new.s x.new.out x.result x.ensures.0 x.ensures.1 x.ensures.2 (sym c.is_done.ensures ∙ c.if-not-is_done.true))

pub overflow_add-o : goal.overflow_add-o
overflow_add-o c =
    let args = c.args in
    let pre = c.requires in
    let t = notice_taken_lem args.s.now args.from args.r.now args.out.now args.delivery.now (kind_number args.o.kind) pre.0 args.o.len pre.1 in
    let q = taken_compares t in
    omega (arith, q.most)

pub slice_bounds-copy_bytes-end : goal.slice_bounds-copy_bytes-end
slice_bounds-copy_bytes-end c =
    let args = c.args in
    let pre = c.requires in
    let t = notice_taken_lem args.s.now args.from args.r.now args.out.now args.delivery.now (kind_number args.o.kind) pre.0 args.o.len pre.1 in
    let q = taken_compares t in
    omega (arith, q.room)

pub copy_bytes-requires : goal.copy_bytes-requires
copy_bytes-requires c =
    let args = c.args in
    let pre = c.requires in
    let t = notice_taken_lem args.s.now args.from args.r.now args.out.now args.delivery.now (kind_number args.o.kind) pre.0 args.o.len pre.1 in
    let q = taken_compares t in
    rw (part_range 3 args.o.len args.r.now, length_part 3 args.o.len args.r.now q.room) (omega (arith, q.most, t.delivery))

pub overflow_cast-o : goal.overflow_cast-o
overflow_cast-o c =
    let args = c.args in
    let pre = c.requires in
    let t = notice_taken_lem args.s.now args.from args.r.now args.out.now args.delivery.now (kind_number args.o.kind) pre.0 args.o.len pre.1 in
    let q = taken_compares t in
    omega (arith, q.most)

pub returns : goal.returns
returns c =
    let args = c.args in
    let pre = c.requires in
    let t = notice_taken_lem args.s.now args.from args.r.now args.out.now args.delivery.now (kind_number args.o.kind) pre.0 args.o.len pre.1 in
    let x = c.take_in-put in
    rw c.answered-2.ensures
    (takes_delivering t x.new.s x.new.out x.result x.ensures.0 x.ensures.1 x.ensures.2 c.copy_bytes.new.dst (sym c.is_done.ensures ∙ c.if-not-is_done.false) (rw (part_range 3 args.o.len args.r.now) at c.copy_bytes.ensures))
