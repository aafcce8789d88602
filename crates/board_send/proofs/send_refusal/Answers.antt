-- `board_send::send_refusal` meets its contract.
-- Assumes nothing.
use mathlib.Core.Path.{◌≡◌, refl}
use mathlib.Core.Bool.{true}
use Rattle.std.proofs.lemmas.Result.{err_from_is_err_and}
use Rattle.octets.specs.Bytes.{pick}
use Rattle.octets.proofs.Picks.{picks}
use Rattle.table.specs.Table.{limits}
use Rattle.board_send.specs.Sent.{send_refusal}
use Rattle.board_send.proofs.send_refusal.Goals as goal

pub returns-in_err-c-clause-number : goal.returns-in_err-c-clause-number
unfolding send_refusal pick
returns-in_err-c-clause-number c =
    let p = err_from_is_err_and c.from_residual.result c.from_residual.ensures.1 in
    rw (p.1, p.2, c.in_err-c.ensures.0, c.in_err-c.ensures.1) refl

pub returns-then-out-lt-OUT_BYTES-clause-number : goal.returns-then-out-lt-OUT_BYTES-clause-number
unfolding send_refusal pick
returns-then-out-lt-OUT_BYTES-clause-number c =
    let lim : limits c.args.b ≡ true = rw c.in_ok-c.ensures at c.in_ok-c.c.within in
    rw lim (search picks)

pub returns-then-not-is_board-clause-number : goal.returns-then-not-is_board-clause-number
unfolding send_refusal pick
returns-then-not-is_board-clause-number c =
    let lim : limits c.args.b ≡ true = rw c.in_ok-c.ensures at c.in_ok-c.c.within in
    rw (lim, ← c.is_board.ensures, c.if-not-is_board.true) (search picks)

pub returns-then-b-message-clause-number : goal.returns-then-b-message-clause-number
unfolding send_refusal pick
returns-then-b-message-clause-number c =
    let lim : limits c.args.b ≡ true = rw c.in_ok-c.ensures at c.in_ok-c.c.within in
    rw (lim, ← c.is_board.ensures, c.if-not-is_board.false) (search picks)

pub returns-clause-number : goal.returns-clause-number
unfolding send_refusal pick
returns-clause-number c =
    let lim : limits c.args.b ≡ true = rw c.in_ok-c.ensures at c.in_ok-c.c.within in
    rw (lim, ← c.is_board.ensures, c.if-not-is_board.false) (search picks)
