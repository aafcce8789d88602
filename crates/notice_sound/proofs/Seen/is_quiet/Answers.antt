use native.Mathlib.Omega.{arith}
use Rattle.std.proofs.lemmas.Grind.{common_steps}
use Rattle.octets.specs.Bytes.{pick}
use Rattle.table.specs.Table.{most_of, some_of}
use Rattle.notice.specs.Sound.{notice_quiet}
use Rattle.notice_sound.proofs.Counts.{reaches_kept}
use Rattle.notice_sound.proofs.Seen.is_quiet.Goals as goal

pub returns-then-self : goal.returns-then-self
unfolding notice_quiet pick
returns-then-self c = grind (arith, common_steps)

pub returns-then-self-2 : goal.returns-then-self-2
unfolding notice_quiet pick
returns-then-self-2 c =
    let k = c.args.self.now in
    let q = c.requires in
    rw (← reaches_kept k.s.now 3 k.b.table k.m k.long k.b.within (λ i l. (q i l).1) (most_of k.b.table) k.m.votes) (grind (arith, common_steps))

pub returns-then-not-reached : goal.returns-then-not-reached
unfolding notice_quiet pick
returns-then-not-reached c =
    let k = c.args.self.now in
    let q = c.requires in
    rw (
      ← reaches_kept k.s.now 2 k.b.table k.m k.long k.b.within (λ i l. (q i l).0) (most_of k.b.table) k.m.echoes,
      ← reaches_kept k.s.now 3 k.b.table k.m k.long k.b.within (λ i l. (q i l).1) (some_of k.b.table) k.m.votes,
    )
    (grind (arith, common_steps))

pub returns-else-not-reached : goal.returns-else-not-reached
unfolding notice_quiet pick
returns-else-not-reached c =
    let k = c.args.self.now in
    let q = c.requires in
    rw (← reaches_kept k.s.now 2 k.b.table k.m k.long k.b.within (λ i l. (q i l).0) (most_of k.b.table) k.m.echoes) (grind (arith, common_steps))
