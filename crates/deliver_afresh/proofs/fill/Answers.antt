-- `deliver_afresh::fill` meets its contract.
-- Assumes nothing.
use mathlib.Core.Path.{◌∙◌}
use Rattle.deliver_afresh.proofs.Hashing.{filled}
use Rattle.deliver_afresh.proofs.fill.Goals as goal

pub returns : goal.returns
returns c =
    let args = c.args in
    let p = c.requires in
    let fill_rows = c.fill_rows in
    let fill_end = c.fill_end in
    λ f l.
    let a = args in
    filled a.kept.now.area.now a.kept.now.s a.kept.now.points.now a.ws.now a.v a.len a.j f fill_rows.new.buffer fill_end.new.buffer p.0 p.4 l
    (fill_end.auto.buffer ∙ (fill_rows.auto.buffer ∙ p.3)) fill_rows.ensures.0 fill_rows.ensures.1 (λ i h. fill_end.ensures f l.size
    l.last p.0 i h)
