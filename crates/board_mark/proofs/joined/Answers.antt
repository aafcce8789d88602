-- `board_mark::joined` meets its contract.
-- Assumes nothing.
use native.Mathlib.Nat.{one-mul, mod-eq_of_lt}
use lib.Pow.{pow-lt}
use Prim.Native.Nat.{◌^◌}
use Rattle.octets.specs.Bytes.{pick}
use Rattle.board_mark.proofs.joined.Goals as goal

pub returns-then-on : goal.returns-then-on
unfolding pick
returns-then-on c = rw (c.if-on.true, one-mul (2 ^ c.args.i), mod-eq_of_lt {n = 2 ^ c.args.i} {m = 18446744073709551616} (pow-lt {j = 64} c.requires))

pub returns-else-on : goal.returns-else-on
unfolding pick
returns-else-on c = rw c.if-on.false
