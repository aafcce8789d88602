-- `tree::set_pair` meets its contract. Assumes nothing.
use mathlib.Core.Path.{ap, ◌∙◌}
use Prim.Native.Nat.{◌-◌}
use native.Mathlib.Omega.{arith}
use Rattle.octets.specs.Bytes.{put}
use Rattle.sha256.specs.Sha256.{digest}
use Rattle.sha256.proofs.Digest.{digest_length}
use Rattle.tree.proofs.Pairs.{pair_left, pair_right}
use Rattle.tree.proofs.set_pair.Goals as goal

pub returns : goal.returns
returns c =
    let a = c.args in
    let y = a.node.now in
    let two = c.copy_at.ensures ∙ ap (put (32 - a.at) y) c.put_digest.ensures in (
      λ e. two ∙ pair_left (digest a.h.now) y a.pair.now a.at (digest_length a.h.now) c.requires.3 (omega arith) e,
      λ e. two ∙ pair_right (digest a.h.now) y a.pair.now a.at (digest_length a.h.now) c.requires.3 (omega arith) e,
    )
