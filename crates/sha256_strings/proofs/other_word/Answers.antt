-- `sha256_strings::other_word` meets its contract. Assumes nothing.
use mathlib.Core.List.{◌++◌}
use native.Mathlib.Omega.{arith}
use lib.ListN.{length-append}
use Rattle.sha256.proofs.Padding.{length_pad}
use Rattle.sha256_strings.proofs.other_word.Goals as goal

pub pad_word-requires : goal.pad_word-requires
pad_word-requires c =
    let a = c.args in omega (arith, length-append a.head.now a.body.now, length_pad (a.head.now ++ a.body.now))
