-- `tree::width` meets its contract. Assumes nothing.
use Prim.Native.Nat.{◌≤◌, ◌^◌}
use native.Mathlib.Omega.{arith}
use native.Mathlib.Nat.{pow-le-pow_right, one-le-pow}
use Rattle.tree.proofs.width.Goals as goal

pub returns : goal.returns
returns c =
    let d = c.args.d in
    let low : 1 ≤ 2 ^ d = one-le-pow d 2 (omega arith) in
    let high : 2 ^ d ≤ 64 = pow-le-pow_right {n = 2} (omega arith) {i = d} {j = 6} (omega arith) in
    (omega arith, omega arith, omega arith)
