use Prim.Native.Nat.{ℕ, ◌+◌, ◌/◌}
use mathlib.Core.Path.{◌≡◌, refl, ap, ◌∙◌}
use mathlib.Core.List.{◌++◌}
use native.Mathlib.Omega.{arith}
use Rattle.sha256.specs.Sha256.{pad}
use Rattle.sha256.specs.Chain.{chain_from}
use Rattle.sha256.proofs.Blocks.{chain_on}
use Rattle.sha256_strings.proofs.absorb.Goals as goal

pub loop-at-init : goal.loop-at-init
unfolding chain_from
loop-at-init c = (omega arith, omega arith, refl)

pub loop-at-preserved : goal.loop-at-preserved
loop-at-preserved c =
    let a = c.args in
    let l = c.loop-at in
    (omega arith, omega arith, chain_on a.h.now l.h _ (pad (a.head.now ++ a.body.now)) l.at l.invariant.1 l.invariant.2 c.take_at.ensures)

pub returns-2 : goal.returns-2
returns-2 c =
    let a = c.args in
    let l = c.loop-at in
    let e : l.at + 64 ≡ a.end = omega arith in
    chain_on a.h.now l.h _ (pad (a.head.now ++ a.body.now)) l.at l.invariant.1 l.invariant.2 c.take_at.ensures
    ∙ ap (λ (n : ℕ). chain_from a.h.now (n / 64) (pad (a.head.now ++ a.body.now))) e
