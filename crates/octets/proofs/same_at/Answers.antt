use mathlib.Core.Path.{ap₂, ◌∙◌}
use Rattle.octets.specs.Bytes.{same}
use Rattle.octets.proofs.Laws.{part_range}
use Rattle.octets.proofs.Sames.{same_pointwise}
use Rattle.octets.proofs.same_at.Goals as goal

pub returns : goal.returns
returns c =
    let a = c.args in
    c.eq.ensures ∙ same_pointwise _ _ ∙ ap₂ same (part_range a.a a.n a.s.now) (part_range a.b a.n a.r.now)
