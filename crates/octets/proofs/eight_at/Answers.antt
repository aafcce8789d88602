use mathlib.Core.Path.{◌≡◌}
use Prim.Native.Nat.{◌+◌}
use native.Mathlib.Omega.{arith}
use Rattle.octets.specs.Bytes.{four_at, eight_at}
use Rattle.octets.proofs.eight_at.Goals as goal

pub returns : goal.returns
unfolding eight_at four_at
returns c =
    let at = c.args.at in
    let e3 : at + 2 + 1 ≡ at + 3 = omega arith in
    let e5 : at + 4 + 1 ≡ at + 5 = omega arith in
    let e6 : at + 4 + 2 ≡ at + 6 = omega arith in
    let e7 : at + 6 + 1 ≡ at + 7 = omega arith in
    rw (e3, e5, e6, e7) (omega (arith, c.from_be_bytes.ensures))
