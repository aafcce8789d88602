use mathlib.Core.Path.{◌∙◌}
use Rattle.board_step.proofs.Due.{deliver_asks, deliver_gives}
use native.Mathlib.Omega.{arith}
use Rattle.octets.specs.Bytes.{pick, part}
use Rattle.state.specs.State.{state_size}
use Rattle.board_step.specs.Step.{usable_for, delivered}
use Rattle.table.proofs.Within.{within}
use Rattle.board_step.proofs.deliver_due.Goals as goal

pub returns-then-not-ends : goal.returns-then-not-ends
unfolding delivered pick
returns-then-not-ends c = rw c.if-not-ends.true

pub naming_usable-set-requires : goal.naming_usable-set-requires
unfolding state_size
naming_usable-set-requires c = (omega (arith, c.requires.room), (within _ c.requires.lim).few)

pub slice_bounds-deliver-count : goal.slice_bounds-deliver-count
unfolding state_size
slice_bounds-deliver-count c = omega (arith, c.requires.room)

pub slice_bounds-deliver-start : goal.slice_bounds-deliver-start
unfolding state_size
slice_bounds-deliver-start c = omega (arith, c.requires.room)

pub slice_bounds-deliver-count-2 : goal.slice_bounds-deliver-count-2
unfolding state_size
slice_bounds-deliver-count-2 c = omega (arith, c.requires.room)

pub slice_bounds-deliver-start-2 : goal.slice_bounds-deliver-start-2
unfolding state_size
slice_bounds-deliver-start-2 c = omega (arith, c.requires.room)

pub deliver-requires : goal.deliver-requires
unfolding usable_for part
deliver-requires c =
    let a = c.args in let p = c.requires in let naming = c.naming_usable-set in let e = naming.ensures in
    let q = deliver_asks a.b a.m a.s.now a.r.now a.delivery.now naming.result a.ends p c.if-not-ends.false e in (q.1, q.2, q.3, q.4, q.5, q.6, q.7)

pub returns : goal.returns
unfolding delivered pick usable_for part
returns c =
    let a = c.args in let naming = c.naming_usable-set in let e = naming.ensures in
    rw c.if-not-ends.false (c.deliver.ensures ∙ deliver_gives a.b a.m a.s.now a.r.now a.delivery.now naming.result e)
