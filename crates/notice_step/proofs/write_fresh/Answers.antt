use native.Mathlib.Omega.{arith}
use Rattle.table.proofs.Within.{within, board_number}
use Rattle.notice_step.specs.Started.{notice_fresh}
use Rattle.notice_step.proofs.Writes.{fresh_written}
use Rattle.notice_step.proofs.write_fresh.Goals as goal

pub overflow_cast-s : goal.overflow_cast-s
overflow_cast-s c =
    let w = within _ c.args.b.within in omega arith

pub overflow_cast-s-2 : goal.overflow_cast-s-2
overflow_cast-s-2 c =
    let w = within _ c.args.b.within in omega arith

pub overflow_cast-s-3 : goal.overflow_cast-s-3
overflow_cast-s-3 c =
    let w = within _ c.args.b.within in omega arith

pub overflow_cast-s-4 : goal.overflow_cast-s-4
overflow_cast-s-4 c =
    let w = within _ c.args.b.within in let i = board_number _ _ c.requires.1 in omega arith

pub returns : goal.returns
unfolding notice_fresh
returns c = rw c.clear_at.ensures (fresh_written _ _ _ _ 8348 _)
