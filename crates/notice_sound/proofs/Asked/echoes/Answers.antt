use mathlib.Core.Path.{refl, ◌∙◌}
use mathlib.Core.Bool.{true}
use Rattle.octets.specs.Bytes.{pick}
use Rattle.notice_sound.proofs.Counts.{counted, lent_notice}
use Rattle.notice_sound.proofs.Asked.echoes.Goals as goal

pub returns : goal.returns
unfolding pick
returns c =
    let a = c.args.self.now in
    let u = c.echoes.ensures in
    c.count.ensures
    ∙ rw (u.0, u.1, u.2, u.3, lent_notice a.len a.r.now a.count) (counted a.s.now 2 a.b.table a.m a.long a.b.within a.echoes true refl a.r.now a.len a.count a.room)
