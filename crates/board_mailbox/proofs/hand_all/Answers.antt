use native.Mathlib.Omega.{arith}
use Rattle.mailbox.proofs.Framing.{framed_whole}
use Rattle.board_mailbox.specs.Emptied.{only_number, emptied}
use Rattle.board_mailbox.proofs.Walk.{walk_start, walk_next, walk_end, ends}
use Rattle.board_mailbox.proofs.hand_all.Goals as goal

pub two_at-count-requires : goal.two_at-count-requires
two_at-count-requires c =
    let h = framed_whole _ c.requires.1.0 in omega (arith, h.0)

pub loop-i-init : goal.loop-i-init
loop-i-init c =
    let two_at = c.two_at-count in let a = c.args in
    let p = c.requires in
    rw c.only_number-m.ensures (walk_start a.mailbox.now (emptied (only_number 0) a.state.now a.answers.now a.echo.now a.vote.now a.delivery.now) two_at.result
    p.0 p.1.0 two_at.ensures.0)

pub overflow_add-a : goal.overflow_add-a
overflow_add-a c = omega (arith, ends _ _ _ _ _ _ c.loop-i.invariant c.loop-i-test.true)

pub overflow_add-at : goal.overflow_add-at
overflow_add-at c = omega (arith, ends _ _ _ _ _ _ c.loop-i.invariant c.loop-i-test.true)

pub two_at-requires : goal.two_at-requires
two_at-requires c = omega (arith, ends _ _ _ _ _ _ c.loop-i.invariant c.loop-i-test.true)

pub overflow_add-e : goal.overflow_add-e
overflow_add-e c = omega (arith, ends _ _ _ _ _ _ c.loop-i.invariant c.loop-i-test.true, c.two_at.ensures.0)

pub bounds-mailbox-at : goal.bounds-mailbox-at
bounds-mailbox-at c = omega (arith, ends _ _ _ _ _ _ c.loop-i.invariant c.loop-i-test.true)

pub slice_bounds-hand_over-end : goal.slice_bounds-hand_over-end
slice_bounds-hand_over-end c =
    let loop_test = c.loop-i-test in let l = c.loop-i in
    omega (arith, ends _ _ _ _ _ _ l.invariant loop_test.true, c.two_at.ensures.0)

pub hand_over-next-requires : goal.hand_over-next-requires
hand_over-next-requires c =
    let loop_test = c.loop-i-test in
    let two_at = c.two_at-count in
    let l = c.loop-i in
    let p = c.requires in
    (l.invariant.opened, omega (arith, l.invariant.long.answers, loop_test.true, two_at.ensures.0, p.1.1))

pub loop-i-preserved : goal.loop-i-preserved
loop-i-preserved c =
    let loop_test = c.loop-i-test in
    let hand_over = c.hand_over-next in
    let two_at2 = c.two_at in
    let l = c.loop-i in
    let from = c.from-from in
    walk_next _ _ _ _ _ _ l.invariant loop_test.true from.result two_at2.result _ from.ensures two_at2.ensures.0 hand_over.ensures

pub shape_of-state : goal.shape_of-state
shape_of-state c = c.loop-i.invariant.long.state

pub shape_of-answers : goal.shape_of-answers
shape_of-answers c = c.loop-i.invariant.long.answers

pub shape_of-echo : goal.shape_of-echo
shape_of-echo c = c.loop-i.invariant.long.echo

pub shape_of-vote : goal.shape_of-vote
shape_of-vote c = c.loop-i.invariant.long.vote

pub shape_of-delivery : goal.shape_of-delivery
shape_of-delivery c = c.loop-i.invariant.long.delivery

pub returns : goal.returns
returns c = walk_end _ _ _ _ _ _ c.loop-i.invariant c.loop-i-test.false
