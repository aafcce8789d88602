-- `sha256_strings::take_block` meets its contract. Assumes nothing.
use native.Mathlib.Omega.{arith}
use Rattle.sha256.proofs.Padding.{length_pad}
use Rattle.sha256.proofs.Blocks.{one_block}
use Rattle.sha256_strings.proofs.take_block.Goals as goal

pub take_at-requires : goal.take_at-requires
take_at-requires c = omega (arith, length_pad c.args.b.now)

pub returns : goal.returns
returns c = one_block _ _ _ c.requires c.take_at.ensures
