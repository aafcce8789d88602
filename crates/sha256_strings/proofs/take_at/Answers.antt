-- `sha256_strings::take_at` meets its contract. Assumes nothing.
use mathlib.Core.List.{◌++◌}
use Rattle.sha256.specs.Sha256.{pad}
use Rattle.sha256.proofs.Blocks.{block_on}
use Rattle.sha256_strings.proofs.take_at.Goals as goal

pub returns : goal.returns
returns c =
    let a = c.args in
    block_on a.h.now c.mixed.result (pad (a.head.now ++ a.body.now)) _ a.at c.requires.1 c.load.ensures.1 c.mixed.ensures.1
