use Prim.Native.Nat.{◌^◌}
use native.Mathlib.Omega.{arith}
use native.Mathlib.Nat.{div-eq_of_lt}
use mathlib.Core.Path.{sym}
use borrow.Author.Tests.{eq-eqb}
use Rattle.table.proofs.below.Goals as goal

pub returns-then-n-eq64 : goal.returns-then-n-eq64
returns-then-n-eq64 c = sym (eq-eqb _ _ (div-eq_of_lt {n = c.args.set} {m = 2 ^ c.args.n} (rw c.if-n-eq64.true (omega arith))))
