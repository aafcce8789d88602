use lib.ListN.{length-set}
use native.Mathlib.Omega.{arith}
use Rattle.octets.proofs.Laws.{length_put}
use Rattle.table.proofs.Within.{within, board_number}
use Rattle.board.specs.Started.{fresh_bytes}
use Rattle.board.proofs.Fresh.{fresh_written}
use Rattle.board.proofs.write_fresh.Goals as goal

pub overflow_cast-s : goal.overflow_cast-s
overflow_cast-s c =
    let w = within _ c.args.b.within in omega arith

pub overflow_cast-s-2 : goal.overflow_cast-s-2
overflow_cast-s-2 c =
    let w = within _ c.args.b.within in omega arith

pub bounds-s-1 : goal.bounds-s-1
bounds-s-1 c = simp length-set (omega arith)

pub overflow_cast-s-3 : goal.overflow_cast-s-3
overflow_cast-s-3 c =
    let w = within _ c.args.b.within in omega arith

pub bounds-s-2 : goal.bounds-s-2
bounds-s-2 c = simp length-set (omega arith)

pub overflow_cast-s-4 : goal.overflow_cast-s-4
overflow_cast-s-4 c =
    let w = within _ c.args.b.within in let i = board_number _ _ c.requires.1 in omega arith

pub bounds-s-3 : goal.bounds-s-3
bounds-s-3 c = simp length-set (omega arith)

pub put_two-requires : goal.put_two-requires
put_two-requires c = simp length-set (omega arith)

pub clear_at-requires : goal.clear_at-requires
clear_at-requires c = rw c.put_two.ensures (simp (length_put, length-set) (omega arith))

pub shape_of-s : goal.shape_of-s
shape_of-s c = rw (c.clear_at.ensures, c.put_two.ensures) (simp (length_put, length-set))

pub returns : goal.returns
unfolding fresh_bytes
returns c = rw (c.clear_at.ensures, c.put_two.ensures) (fresh_written _ _ _ _ _ 4602 _)
