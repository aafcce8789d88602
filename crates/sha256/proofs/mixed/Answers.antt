-- `sha256::mixed` meets its contract. Assumes nothing.
use Rattle.sha256.proofs.Blocks.{mixed_made}
use Rattle.sha256.proofs.mixed.Goals as goal

pub returns : goal.returns
returns c =
    let e = c.expand_rest.ensures in
    (e.0, λ b h. mixed_made b _ _ _ _ (e.1 b h) c.turned_all.ensures c.added.ensures)
