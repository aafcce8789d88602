-- `sha256::turned_eight` meets its contract. Assumes nothing.
use Rattle.sha256.proofs.Rounds.{rounds_eight}
use Rattle.sha256.proofs.turned_eight.Goals as goal

pub returns : goal.returns
returns c =
    λ first h.
    rounds_eight _ first _ _ _ _ _ _ _ _ _ _ _ c.constants-k.ensures h
    c.turned-s1.ensures
    c.turned-s2.ensures
    c.turned-s3.ensures
    c.turned-s4.ensures
    c.turned-s5.ensures
    c.turned-s6.ensures
    c.turned-s7.ensures
    c.turned.ensures
