use native.Mathlib.Omega.{arith}
use Rattle.std.proofs.lemmas.Grind.{common_steps}
use Rattle.octets.specs.Bytes.{pick}
use Rattle.table.proofs.Within.{within, board_number}
use Rattle.board.specs.Planned.{is_stray}
use Rattle.notice_step.specs.Planned.{by_heard}
use Rattle.notice_step.proofs.by_heard.Goals as goal

pub returns-then-from-b : goal.returns-then-from-b
unfolding by_heard is_stray pick
returns-then-from-b c = grind (arith, common_steps)

pub returns-then-m : goal.returns-then-m
unfolding by_heard is_stray pick
returns-then-m c = grind (arith, common_steps)

pub overflow_sub-from : goal.overflow_sub-from
overflow_sub-from c =
    let i = board_number _ _ c.requires.0 in omega arith

pub again-requires : goal.again-requires
again-requires c =
    let w = within _ c.args.b.within in
    let i = board_number _ _ c.requires.0 in omega arith

pub returns-then-again : goal.returns-then-again
unfolding by_heard is_stray pick
returns-then-again c = grind (arith, common_steps)

pub returns : goal.returns
unfolding by_heard is_stray pick
returns c = grind (arith, common_steps)
