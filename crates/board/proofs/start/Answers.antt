use native.Mathlib.Omega.{arith}
use mathlib.Core.Path.{sym, ◌∙◌}
use borrow.Author.Tests.{lt-ltb, le-ltb}
use lib.ListN.{length}
use Rattle.std.proofs.lemmas.Result.{err_from_is_err_and}
use Rattle.octets.specs.Bytes.{pick}
use Rattle.state.specs.State.{state_size}
use Rattle.board.specs.Started.{start_of}
use Rattle.board.proofs.start.Goals as goal

pub returns-in_err-b : goal.returns-in_err-b
unfolding start_of pick
returns-in_err-b c =
    let p = err_from_is_err_and c.from_residual.result c.from_residual.ensures.1 in
    rw (p.1, p.2, c.in_err-b.ensures.0, c.in_err-b.ensures.1)

pub returns-then-not-is_board : goal.returns-then-not-is_board
unfolding start_of pick
returns-then-not-is_board c =
    let l = rw c.in_ok-b.ensures at c.in_ok-b.b.within in
    rw (l, ← c.is_board.ensures, c.if-not-is_board.true)

pub returns-then-state-state_size : goal.returns-then-state-state_size
unfolding start_of pick
returns-then-state-state_size c =
    let l = rw c.in_ok-b.ensures at c.in_ok-b.b.within in
    let e = rw c.in_ok-b.ensures at c.state_size.ensures in
    rw (l, ← c.is_board.ensures, c.if-not-is_board.false, ← e, lt-ltb (length c.args.state.now) c.state_size.result c.if-state-state_size.true)

pub write_fresh-requires : goal.write_fresh-requires
unfolding state_size
write_fresh-requires c = (omega arith, rw c.in_ok-b.ensures (sym c.is_board.ensures ∙ c.if-not-is_board.false))

pub returns : goal.returns
unfolding start_of pick
returns c =
    let l = rw c.in_ok-b.ensures at c.in_ok-b.b.within in
    let e = rw c.in_ok-b.ensures at c.state_size.ensures in
    rw (
      l,
      ← c.is_board.ensures,
      c.if-not-is_board.false,
      ← e,
      le-ltb (length c.args.state.now) c.state_size.result c.if-state-state_size.false,
      c.write_fresh.ensures,
      c.in_ok-b.ensures,
    )
