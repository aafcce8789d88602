use mathlib.Core.Path.{refl, ◌∙◌}
use mathlib.Core.Bool.{false}
use Rattle.octets.specs.Bytes.{pick}
use Rattle.notice_sound.proofs.Counts.{counted, lent_notice}
use Rattle.notice_sound.proofs.Asked.votes.Goals as goal

pub returns : goal.returns
unfolding pick
returns c =
    let a = c.args.self.now in
    let u = c.votes.ensures in
    c.count.ensures
    ∙ rw (u.0, u.1, u.2, u.3, lent_notice a.len a.r.now a.count) (counted a.s.now 3 a.b.table a.m a.long a.b.within a.votes false refl a.r.now a.len a.count a.room)
