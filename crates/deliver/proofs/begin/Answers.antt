-- `deliver::begin` meets its contract.
-- Assumes nothing.
use Rattle.deliver.proofs.begin.Goals as goal

pub returns-clause-read : goal.returns-clause-read
returns-clause-read c =
    let begin_in = c.begin_in in λ g W. let e = begin_in.ensures in let M = W begin_in.new.m begin_in.new.ds e.product e.scales in (begin_in.new.m, M, e.read g M)
