use native.Mathlib.Omega.{arith}
use borrow.Author.Tests.{le-ltb}
use Prim.Native.Nat.{◌*◌}
use Rattle.table.specs.Table.{limits}
use Rattle.octets.proofs.Picks.{picks}
use Rattle.table.proofs.Table.in_limits.Goals as goal

pub returns-then-self-lt1 : goal.returns-then-self-lt1
unfolding limits
returns-then-self-lt1 c = search picks

pub returns-then-self-gt64 : goal.returns-then-self-gt64
unfolding limits
returns-then-self-gt64 c = search picks

pub returns-then-self-gt64-2 : goal.returns-then-self-gt64-2
unfolding limits
returns-then-self-gt64-2 c = search (picks, le-ltb (3 * c.args.self.t) c.args.self.n (omega arith))

pub returns-then-self : goal.returns-then-self
unfolding limits
returns-then-self c = search picks

pub returns-then-self-lt1-2 : goal.returns-then-self-lt1-2
unfolding limits
returns-then-self-lt1-2 c = search picks depth 8

pub returns-then-self-2 : goal.returns-then-self-2
unfolding limits
returns-then-self-2 c = search picks depth 8

pub returns : goal.returns
unfolding limits
returns c = search picks depth 9
