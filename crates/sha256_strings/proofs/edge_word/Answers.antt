-- `sha256_strings::edge_word` meets its contract. Assumes nothing.
use native.Mathlib.Omega.{arith}
use Rattle.sha256.proofs.Blocks.{word_made}
use Rattle.sha256_strings.proofs.edge_word.Goals as goal

pub returns : goal.returns
returns c = word_made _ _ _ _ _ _ _ (omega (arith, c.from_be_bytes.ensures)) c.padded.ensures c.padded-2.ensures c.padded-3.ensures c.padded-4.ensures
