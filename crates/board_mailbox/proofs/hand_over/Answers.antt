use mathlib.Core.Path.{◌≡◌, sym, ◌∙◌}
use borrow.Author.Tests.{eqb-true, eq-eqb}
use Prim.Native.Nat.{◌-◌, ◌*◌}
use lib.ListN.{length, get_or}
use native.Mathlib.Omega.{arith}
use Rattle.octets.specs.Bytes.{pick}
use Rattle.octets.proofs.Picks.{never}
use Rattle.record.specs.Kinds.{kind_number}
use Rattle.record.proofs.Reading.{kind_fine, kind_refused}
use Rattle.state.specs.State.{view}
use Rattle.state.proofs.Facts.{sound_limits}
use Rattle.board_step.specs.Asked.{out_room}
use Rattle.board_mailbox.proofs.Handing.{refused_by, takes_now, number_few, handed_refused, handed_send, handed_word}
use Rattle.board_mailbox.proofs.hand_over.Goals as goal

pub record_refusal-q-requires : goal.record_refusal-q-requires
record_refusal-q-requires c =
    let a = c.args in let p = c.requires in let h = p.0.ready in
    (h.long, sound_limits (view a.state.now) h.sound)

pub note-requires : goal.note-requires
note-requires c =
    let record_refusal = c.record_refusal-q in let a = c.args in
    let p = c.requires in
    (p.1, omega (arith, number_few a.state.now a.from a.r.now a.echo.now a.delivery.now p.0.ready record_refusal.result record_refusal.ensures))

pub returns-then-q-ne0 : goal.returns-then-q-ne0
returns-then-q-ne0 c =
    let record_refusal = c.record_refusal-q in
    let a = c.args in
    let p = c.requires in
    let (at, e) = refused_by a.state.now a.from a.r.now a.echo.now a.delivery.now p.0.ready record_refusal.result record_refusal.ensures c.if-q-ne0.true in
    rw c.note.ensures (handed_refused a.i a.m a.state.now a.answers.now a.echo.now a.vote.now a.delivery.now a.from a.r.now
    record_refusal.result at e)

pub bounds-r-0 : goal.bounds-r-0
bounds-r-0 c =
    let record_refusal = c.record_refusal-q in
    let a = c.args in
    let p = c.requires in
    let t = takes_now a.state.now a.from a.r.now a.echo.now a.delivery.now p.0.ready record_refusal.result record_refusal.ensures c.if-q-ne0.false in
    omega (arith, t.ends)

pub two_at-nodes-requires : goal.two_at-nodes-requires
two_at-nodes-requires c =
    let record_refusal = c.record_refusal-q in
    let a = c.args in
    let p = c.requires in
    let t = takes_now a.state.now a.from a.r.now a.echo.now a.delivery.now p.0.ready record_refusal.result record_refusal.ensures c.if-q-ne0.false in
    omega (arith, t.ends)

pub overflow_sub-o : goal.overflow_sub-o
overflow_sub-o c =
    let record_refusal = c.record_refusal-q in
    let a = c.args in
    let p = c.requires in
    let t = takes_now a.state.now a.from a.r.now a.echo.now a.delivery.now p.0.ready record_refusal.result record_refusal.ensures c.if-q-ne0.false in
    omega (arith, t.ends)

pub overflow_sub-o-2 : goal.overflow_sub-o-2
overflow_sub-o-2 c =
    let record_refusal = c.record_refusal-q in
    let a = c.args in
    let p = c.requires in
    let t = takes_now a.state.now a.from a.r.now a.echo.now a.delivery.now p.0.ready record_refusal.result record_refusal.ensures c.if-q-ne0.false in
    omega (arith, t.ends, c.two_at-nodes.ensures.0)

pub returns-in_default : goal.returns-in_default
returns-in_default c =
    let a = c.args in let p = c.requires in let q = c.record_refusal-q in
    let t = takes_now a.state.now a.from a.r.now a.echo.now a.delivery.now p.0.ready q.result q.ensures c.if-q-ne0.false in
    let e = kind_refused _ _ _ c.try_from.ensures c.in_default.is in
    never (sym e ∙ t.kind)

pub take_send-put-requires : goal.take_send-put-requires
take_send-put-requires c =
    let a = c.args in let p = c.requires in let q = c.record_refusal-q in
    let t = takes_now a.state.now a.from a.r.now a.echo.now a.delivery.now p.0.ready q.result q.ensures c.if-q-ne0.false in
    let n : kind_number c.in-Ok.kind ≡ get_or a.r.now 0 0 = kind_fine _ _ _ c.try_from.ensures c.in-Ok.is in
    let k = eqb-true (kind_number c.in-Ok.kind) 1 (sym c.is_send.ensures ∙ c.if-is_send.true) in
    let g : get_or a.r.now 0 0 ≡ 1 = sym n ∙ k in
    (k, ((a.echo.now, (a.delivery.now, rw c.two_at-nodes.ensures.0 (rw g at t.plan))), p.0.ready.out))

pub returns-then-is_send : goal.returns-then-is_send
returns-then-is_send c =
    let a = c.args in let p = c.requires in let q = c.record_refusal-q in
    let t = takes_now a.state.now a.from a.r.now a.echo.now a.delivery.now p.0.ready q.result q.ensures c.if-q-ne0.false in
    let n : kind_number c.in-Ok.kind ≡ get_or a.r.now 0 0 = kind_fine _ _ _ c.try_from.ensures c.in-Ok.is in
    let k = eqb-true (kind_number c.in-Ok.kind) 1 (sym c.is_send.ensures ∙ c.if-is_send.true) in
    let g : get_or a.r.now 0 0 ≡ 1 = sym n ∙ k in
    let nodes = c.two_at-nodes in let put = c.take_send-put in
    rw (c.with_echo.ensures, c.note.ensures, c.if-q-ne0.false) (handed_send a.i a.m a.state.now a.answers.now a.echo.now a.vote.now a.delivery.now a.from a.r.now
    nodes.result (length a.r.now - 39 - 32 * nodes.result) put.result put.new.s put.new.echo
    (rw nodes.ensures.0 (rw g at t.plan)) (put.ensures a.delivery.now))

pub take_word-x-requires : goal.take_word-x-requires
unfolding out_room pick
take_word-x-requires c =
    let a = c.args in let p = c.requires in let q = c.record_refusal-q in
    let t = takes_now a.state.now a.from a.r.now a.echo.now a.delivery.now p.0.ready q.result q.ensures c.if-q-ne0.false in
    let n : kind_number c.in-Ok.kind ≡ get_or a.r.now 0 0 = kind_fine _ _ _ c.try_from.ensures c.in-Ok.is in
    ((a.echo.now, rw (c.two_at-nodes.ensures.0, n) t.plan), rw (sym c.is_send.ensures ∙ c.if-is_send.false) p.0.vote)

pub returns : goal.returns
returns c =
    let a = c.args in let p = c.requires in let q = c.record_refusal-q in
    let t = takes_now a.state.now a.from a.r.now a.echo.now a.delivery.now p.0.ready q.result q.ensures c.if-q-ne0.false in
    let n : kind_number c.in-Ok.kind ≡ get_or a.r.now 0 0 = kind_fine _ _ _ c.try_from.ensures c.in-Ok.is in
    let nodes = c.two_at-nodes in let word = c.take_word-x in
    let e = sym c.is_send.ensures ∙ c.if-is_send.false in
    rw (c.with_delivery.ensures, c.with_vote.ensures, c.note.ensures, c.if-q-ne0.false)
    (handed_word a.i a.m a.state.now a.answers.now a.echo.now a.vote.now a.delivery.now a.from a.r.now (kind_number c.in-Ok.kind) nodes.result
    (length a.r.now - 39 - 32 * nodes.result) word.result word.new.s word.new.vote word.new.delivery
    (λ h. never (sym e ∙ eq-eqb (kind_number c.in-Ok.kind) 1 h)) (rw (nodes.ensures.0, n) t.plan) word.ensures)
