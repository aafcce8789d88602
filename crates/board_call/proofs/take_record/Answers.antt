use mathlib.Core.Path.{sym, ◌∙◌}
use Rattle.std.specs.Prelude.{None}
use native.Mathlib.Omega.{arith}
use borrow.Author.Tests.{eqb-true}
use Rattle.record.specs.Kinds.{kind_number}
use Rattle.board.proofs.Taken.{taken}
use Rattle.board_step.specs.Step.{good}
use Rattle.board_step.proofs.Records.{room_most}
use Rattle.board_step.proofs.Taking.{formed, done_asks, none_due, takes}
use Rattle.board_call.proofs.take_record.Goals as goal

pub is_good-good-requires : goal.is_good-good-requires
is_good-good-requires c =
    let a = c.args in let p = c.requires in
    ((taken a.s.now a.from a.r.now a.out.now a.delivery.now (kind_number a.o.kind) a.o.nodes a.o.len (p)).long, formed a.s.now a.from a.r.now a.out.now a.delivery.now (kind_number a.o.kind) a.o.nodes a.o.len (taken a.s.now a.from a.r.now a.out.now a.delivery.now (kind_number a.o.kind) a.o.nodes a.o.len (p)))

pub take_in-put-requires : goal.take_in-put-requires
take_in-put-requires c =
    let a = c.args in let t = taken a.s.now a.from a.r.now a.out.now a.delivery.now (kind_number a.o.kind) a.o.nodes a.o.len c.requires in
    ((a.out.now, (a.delivery.now, c.requires)), omega (arith, room_most (kind_number a.o.kind), t.out))

pub is_done-requires : goal.is_done-requires
is_done-requires c =
    let a = c.args in let p = c.requires in let take_in = c.take_in-put in
    (done_asks a.s.now a.from a.r.now a.out.now a.delivery.now (kind_number a.o.kind) a.o.nodes a.o.len (taken a.s.now a.from a.r.now a.out.now a.delivery.now (kind_number a.o.kind) a.o.nodes a.o.len (p)) c.is_good-good.result take_in.new.s take_in.ensures.0).0

pub returns-then-not-is_done : goal.returns-then-not-is_done
unfolding good
returns-then-not-is_done c =
    let a = c.args in let p = c.requires in let take_in = c.take_in-put in
    let is_good = c.is_good-good in
    rw c.answered.ensures
    (takes a.s.now a.from a.r.now a.out.now a.delivery.now (kind_number a.o.kind) a.o.nodes a.o.len (taken a.s.now a.from a.r.now a.out.now a.delivery.now (kind_number a.o.kind) a.o.nodes a.o.len (p)) is_good.result a.out.now take_in.new.s take_in.new.out a.delivery.now take_in.result
    None is_good.ensures take_in.ensures.0 take_in.ensures.1 take_in.ensures.2
    (none_due _ _ _ (sym c.is_done.ensures ∙ c.if-not-is_done.true)))

pub deliver_done-requires : goal.deliver_done-requires
deliver_done-requires c =
    let a = c.args in let p = c.requires in let take_in = c.take_in-put in
    done_asks a.s.now a.from a.r.now a.out.now a.delivery.now (kind_number a.o.kind) a.o.nodes a.o.len (taken a.s.now a.from a.r.now a.out.now a.delivery.now (kind_number a.o.kind) a.o.nodes a.o.len (p)) c.is_good-good.result take_in.new.s take_in.ensures.0

pub returns : goal.returns
unfolding good
returns c =
    let a = c.args in let p = c.requires in
    let take_in = c.take_in-put in let is_good = c.is_good-good in
    rw c.answered-2.ensures
    (takes a.s.now a.from a.r.now a.out.now a.delivery.now (kind_number a.o.kind) a.o.nodes a.o.len (taken a.s.now a.from a.r.now a.out.now a.delivery.now (kind_number a.o.kind) a.o.nodes a.o.len (p)) is_good.result a.out.now take_in.new.s take_in.new.out
    c.deliver_done.new.delivery take_in.result c.deliver_done.result is_good.ensures take_in.ensures.0 take_in.ensures.1 take_in.ensures.2 c.deliver_done.ensures)
