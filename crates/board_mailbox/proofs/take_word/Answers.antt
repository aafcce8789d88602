use Rattle.board.proofs.Taken.{taken}
use Rattle.board_step.proofs.Taking.{formed, done_asks, takes}
use Rattle.record.specs.Kinds.{kind_number}
use Rattle.board_mailbox.proofs.take_word.Goals as goal

pub is_good-good-requires : goal.is_good-good-requires
is_good-good-requires c =
    let a = c.args in let p = c.requires in let p = p.0 in
    let t = taken a.s.now a.from a.r.now p.0 a.delivery.now (kind_number a.o.kind) a.o.nodes a.o.len p.1 in
    (t.long, formed a.s.now a.from a.r.now p.0 a.delivery.now (kind_number a.o.kind) a.o.nodes a.o.len t)

pub take_in-put-requires : goal.take_in-put-requires
take_in-put-requires c =
    let a = c.args in let p = c.requires in
    ((p.0.0, (a.delivery.now, p.0.1)), p.1)

pub finish-left-requires : goal.finish-left-requires
finish-left-requires c =
    let is_good = c.is_good-good in let take_in = c.take_in-put in
    let a = c.args in
    let p = c.requires in let p = p.0 in
    done_asks a.s.now a.from a.r.now p.0 a.delivery.now (kind_number a.o.kind) a.o.nodes a.o.len
    (taken a.s.now a.from a.r.now p.0 a.delivery.now (kind_number a.o.kind) a.o.nodes a.o.len p.1) is_good.result take_in.new.s take_in.ensures.0

pub returns : goal.returns
returns c =
    let is_good = c.is_good-good in
    let take_in = c.take_in-put in let finish = c.finish-left in
    let a = c.args in
    let p = c.requires in let p = p.0 in
    rw (c.kind_of.ensures, c.size_of.ensures)
    (takes a.s.now a.from a.r.now p.0 a.delivery.now (kind_number a.o.kind) a.o.nodes a.o.len
    (taken a.s.now a.from a.r.now p.0 a.delivery.now (kind_number a.o.kind) a.o.nodes a.o.len p.1) is_good.result a.vote.now take_in.new.s take_in.new.out
    finish.new.delivery take_in.result finish.result is_good.ensures take_in.ensures.0 take_in.ensures.1 take_in.ensures.2 finish.ensures)
