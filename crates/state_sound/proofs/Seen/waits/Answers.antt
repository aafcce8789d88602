use native.Mathlib.Omega.{arith}
use mathlib.Core.Path.{refl, ◌∙◌}
use Prim.Native.Nat.{◌<◌}
use Rattle.std.proofs.Common.{rules, tests}
use Rattle.std.proofs.lemmas.Iterator.{YieldsList-from_range, serves_from_Range}
use Rattle.std.proofs.lemmas.Iterator.Search.{any_from_yields_List}
use Rattle.table.proofs.Within.{within}
use Rattle.state.specs.State.{view_of}
use Rattle.state.specs.Sound.{waits, waits_at}
use Rattle.naming.proofs.Runs.{some_is}
use Rattle.state_sound.proofs.Seen.waits.Goals as goal

pub any-requires-clause-callable : goal.any-requires-clause-callable
any-requires-clause-callable c =
    let w = within _ c.args.self.now.b.within in serves_from_Range (λ x q k. search (rules, tests)) (λ i low high. let l : i < 64 = omega arith in search rules)

pub returns : goal.returns
unfolding waits
returns c =
    let k = c.args.self.now in
    any_from_yields_List (waits_at (view_of k.b.table k.m k.s.now)) _ _ _ c.any.ensures.ran
    (YieldsList-from_range 0 k.b.table.n k.b.table.n refl (omega arith)) (λ i r q k. search rules)
    ∙ some_is _ 0 k.b.table.n
