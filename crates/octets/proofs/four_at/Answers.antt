use mathlib.Core.Path.{◌≡◌}
use Prim.Native.Nat.{◌+◌}
use native.Mathlib.Omega.{arith}
use Rattle.octets.specs.Bytes.{four_at}
use Rattle.octets.proofs.four_at.Goals as goal

pub returns : goal.returns
unfolding four_at
returns c =
    let at = c.args.at in
    let e : at + 2 + 1 ≡ at + 3 = omega arith in rw e (omega (arith, c.from_be_bytes.ensures))
