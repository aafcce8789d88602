-- `deliver::end_row` meets its contract.
-- Assumes nothing.
use Rattle.std.proofs.Common.{rules}
use mathlib.Core.Path.{refl, ◌∙◌}
use lib.ListN.{length}
use Rattle.deliver.proofs.Lines.{ended}
use Rattle.deliver.proofs.end_row.Goals as goal

pub returns : goal.returns
returns c =
    let a = c.args in λ b h q g. ended a.row.now c.fill.new.self b (length a.row.now) a.at a.end c.min-from.result refl c.requires c.min-from.ensures
    (c.fill.ensures.after (λ y e. e) ∙ search rules) h q g
