use mathlib.Core.Path.{sym, ◌∙◌}
use native.Mathlib.Omega.{arith}
use Rattle.code_calls.proofs.Firsts.{first_on, first_off, first_end}
use Rattle.code_calls.proofs.first_marked.Goals as goal

pub returns-then-has_board : goal.returns-then-has_board
returns-then-has_board c = (sym (c.loop-i.invariant.1 ∙ first_on _ _ _ c.loop-i-test.true (sym c.has_board.ensures ∙ c.if-has_board.true)), omega arith)

pub loop-i-preserved : goal.loop-i-preserved
loop-i-preserved c = (omega arith, c.loop-i.invariant.1 ∙ first_off _ _ _ c.loop-i-test.true (sym c.has_board.ensures ∙ c.if-has_board.false))

pub returns : goal.returns
returns c =
    let e = c.loop-i.invariant.1 ∙ first_end _ _ _ c.loop-i-test.false in omega arith
