use native.Mathlib.Omega.{arith}
use Rattle.octets.proofs.Laws.{part_range}
use Rattle.naming.proofs.Values.{place_in}
use Rattle.naming.proofs.Kept.value.Goals as goal

pub span-requires : goal.span-requires
span-requires c =
    let k = c.args.self.now in
    let l = place_in k.p.room c.args.i c.requires in
    omega (arith, k.whole c.args.i c.requires)

pub returns : goal.returns
returns c = rw c.span.ensures (part_range _ _ _)
