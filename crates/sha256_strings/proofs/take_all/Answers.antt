-- `sha256_strings::take_all` meets its contract. Assumes nothing.
use Prim.Native.Nat.{◌+◌, ◌*◌, ◌/◌}
use mathlib.Core.Path.{◌≡◌}
use mathlib.Core.List.{◌++◌}
use native.Mathlib.Omega.{arith}
use lib.ListN.{length, length-append}
use Rattle.sha256.specs.Sha256.{pad}
use Rattle.sha256.specs.Tables.{H0}
use Rattle.sha256.proofs.Padding.{length_pad}
use Rattle.sha256.proofs.Blocks.{all_blocks, chain_length}
use Rattle.sha256_strings.proofs.take_all.Goals as goal

pub absorb-requires : goal.absorb-requires
absorb-requires c =
    let a = c.args in omega (arith, length-append a.head.now a.body.now, length_pad (a.head.now ++ a.body.now))

pub returns : goal.returns
unfolding H0
returns c =
    let a = c.args in
    let n = (length a.head.now + length a.body.now + 72) / 64 * 64 in
    let e : n ≡ length (pad (a.head.now ++ a.body.now)) = omega (arith, length-append a.head.now a.body.now, length_pad (a.head.now ++ a.body.now)) in
    let first = c.begun.ensures in
    (chain_length _ _ _ (n / 64) first c.absorb.ensures, all_blocks (a.head.now ++ a.body.now) _ _ n e first c.absorb.ensures)
