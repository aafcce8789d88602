use mathlib.Core.Path.{◌∙◌, sym, refl}
use mathlib.Core.Bool.{◌&&◌}
use Prim.Native.Nat.{◌<◌}
use native.Mathlib.Omega.{arith}
use borrow.Author.Tests.{lt-leb}
use lib.Dec.{leb}
use lib.Count.{ones}
use Rattle.std.proofs.Common.{rules, tests}
use Rattle.std.proofs.lemmas.Iterator.{YieldsList-from_range, serves_from_Range}
use Rattle.std.proofs.lemmas.Iterator.Search.{any_from_yields_List}
use Rattle.octets.specs.Sets.{has}
use Rattle.state.specs.Sound.{naming, reaches}
use Rattle.state.proofs.Tallies.{reaches_few}
use Rattle.naming.specs.Value.{value_of}
use Rattle.naming.proofs.Runs.{some_is}
use Rattle.naming.proofs.Kept.reached.Goals as goal

pub any-requires-clause-callable : goal.any-requires-clause-callable
any-requires-clause-callable c =
    let w = c.args.self.now.few in serves_from_Range (λ x q k. search (rules, tests)) (λ i low high. let l : i < 64 = omega arith in search rules)

pub returns-then-q-size : goal.returns-then-q-size
unfolding reaches
returns-then-q-size c =
    let k = c.args.self.now in
    any_from_yields_List (λ i. has k.set i && leb c.args.q (ones (naming k.n k.set (value_of k.p k.s.now) (value_of k.p k.s.now i)))) _ _ _ c.any.ensures.ran
    (YieldsList-from_range 0 k.n k.n refl (omega arith)) (λ x r q h. search rules)
    ∙ some_is _ 0 k.n

pub returns-else-q-size : goal.returns-else-q-size
returns-else-q-size c =
    let k = c.args.self.now in
    let few : c.size.result < c.args.q = omega arith in
    rw lt-leb (sym (reaches_few k.n c.args.q k.set _ (omega arith)))
