use native.Mathlib.Omega.{arith}
use Rattle.octets.specs.Bytes.{pick}
use Rattle.table.proofs.Within.{within}
use Rattle.notice_sound.proofs.votes.Goals as goal

pub invariant_of-result : goal.invariant_of-result
unfolding pick
invariant_of-result c = record { few = (within _ c.args.b.within).few; room = omega arith; whole = λ i h. omega (arith, c.requires.1 i h) }
