-- `deliver_output::all_of_length` meets its contract.
-- Assumes nothing.
use mathlib.Core.Path.{sym, ◌∙◌}
use native.Mathlib.Omega.{arith}
use Rattle.deliver.proofs.Lengths.{lengths_on, lengths_off, lengths_end}
use Rattle.deliver_output.proofs.all_of_length.Goals as goal

pub returns-then-length_of-len : goal.returns-then-length_of-len
returns-then-length_of-len c =
    let a = c.args in
    let l = c.loop-x in
    λ f h. sym (l.invariant f h ∙ lengths_off a.len a.points.now f l.x-index (omega arith) (λ e. c.if-length_of-len.true (c.length_of.ensures ∙ sym (h l.x-index
    (omega arith)) ∙ e)))

pub loop-x-preserved : goal.loop-x-preserved
loop-x-preserved c =
    let a = c.args in
    let l = c.loop-x in
    λ f h. l.invariant f h ∙ lengths_on a.len a.points.now f l.x-index (omega arith) (h l.x-index (omega arith) ∙ sym c.length_of.ensures
    ∙ c.if-length_of-len.false)

pub returns : goal.returns
returns c =
    let a = c.args in
    let l = c.loop-x in
    λ f h. sym (l.invariant f h ∙ lengths_end a.len a.points.now f l.x-index (omega arith))
