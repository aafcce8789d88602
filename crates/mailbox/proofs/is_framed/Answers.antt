use Rattle.mailbox.proofs.Framing.{framed_many}
use mathlib.Core.Path.{sym, ◌∙◌}
use native.Mathlib.Omega.{arith}
use native.Mathlib.Nat.{sub-zero}
use borrow.Author.Tests.{lt-leb}
use Rattle.mailbox.specs.Items.{framed}
use Rattle.mailbox.proofs.Framing.{complete_next, complete_cut, complete_last, framed_by}
use Rattle.mailbox.proofs.is_framed.Goals as goal

pub returns-then-mailbox-lt2 : goal.returns-then-mailbox-lt2
unfolding framed
returns-then-mailbox-lt2 c = rw (lt-leb 2 _ c.if-mailbox-lt2.true)

pub returns-then-count-gt255 : goal.returns-then-count-gt255
returns-then-count-gt255 c = framed_many _ _ c.if-mailbox-lt2.false c.two_at-count.ensures.0 c.if-count-gt255.true

pub loop-i-init : goal.loop-i-init
loop-i-init c = (omega arith, omega arith, rw sub-zero (framed_by _ _ c.if-mailbox-lt2.false c.two_at-count.ensures.0 (omega arith)))

pub returns-then-mailbox-at-lt3 : goal.returns-then-mailbox-at-lt3
returns-then-mailbox-at-lt3 c = sym (complete_cut _ _ _ _ c.loop-i-test.true (omega arith)) ∙ c.loop-i.invariant.2

pub returns-then-mailbox-at : goal.returns-then-mailbox-at
returns-then-mailbox-at c = sym (complete_cut _ _ _ _ c.loop-i-test.true (omega (arith, c.two_at-len.ensures.0))) ∙ c.loop-i.invariant.2

pub loop-i-preserved : goal.loop-i-preserved
loop-i-preserved c = rw c.two_at-len.ensures.0 (omega arith, omega (arith, c.two_at-len.ensures.0), sym (complete_next _ _ _ _ c.loop-i-test.true (omega (arith, c.two_at-len.ensures.0))) ∙ c.loop-i.invariant.2)

pub returns : goal.returns
returns c = sym (complete_last _ _ _ _ (omega arith)) ∙ c.loop-i.invariant.2
