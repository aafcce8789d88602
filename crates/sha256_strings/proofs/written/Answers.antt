-- `sha256_strings::written` meets its contract. Assumes nothing.
use mathlib.Core.Path.{sym, ◌∙◌}
use native.Mathlib.Omega.{arith}
use Rattle.octets.proofs.Parts.{part_all}
use Rattle.octets.proofs.Puts.{part_put}
use Rattle.octets.proofs.Laws.{length_put}
use Rattle.sha256.proofs.Digest.{digest_length}
use lib.ListN.{replicate}
use Rattle.sha256.specs.Sha256.{digest}
use Rattle.sha256_strings.proofs.written.Goals as goal

pub returns : goal.returns
returns c =
    let p = c.put_digest.ensures in
    p ∙ sym (part_all 32 _ (length_put _ _ _)) ∙ part_put 0 32 (digest c.args.h) (replicate 32 0) (digest_length c.args.h) (omega arith)
