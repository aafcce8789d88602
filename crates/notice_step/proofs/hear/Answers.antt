use Prim.Native.Nat.{◌^◌}
use native.Mathlib.Nat.{one-mul, mod-eq_of_lt}
use lib.Pow.{pow-lt}
use Rattle.octets.specs.Bytes.{pick}
use Rattle.octets.proofs.Picks.{or_true, or_false}
use Rattle.notice.specs.State.{hearing}
use Rattle.notice_step.proofs.hear.Goals as goal

pub returns-in-Send : goal.returns-in-Send
unfolding hearing pick
returns-in-Send c = rw (c.in-Send.is, or_true)

pub returns-in-Echo : goal.returns-in-Echo
unfolding hearing pick
returns-in-Echo c = rw (c.in-Echo.is, or_false, one-mul (2 ^ c.args.i), mod-eq_of_lt {n = 2 ^ c.args.i} {m = 18446744073709551616} (pow-lt {j = 64} c.requires))

pub returns-in-Vote : goal.returns-in-Vote
unfolding hearing pick
returns-in-Vote c = rw (c.in-Vote.is, or_false, one-mul (2 ^ c.args.i), mod-eq_of_lt {n = 2 ^ c.args.i} {m = 18446744073709551616} (pow-lt {j = 64} c.requires))
