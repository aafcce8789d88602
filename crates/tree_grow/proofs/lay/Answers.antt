use Prim.Native.Nat.{ℕ, ◌+◌, ◌^◌}
use mathlib.Core.Path.{◌≡◌, ap, ◌∙◌}
use mathlib.Core.Logic.{⊎_elim}
use native.Mathlib.Omega.{arith}
use Rattle.octets.proofs.Walk.{lt_or_le}
use Rattle.sha256.specs.Sha256.{digest}
use Rattle.tree.specs.Levels.{paths_to}
use Rattle.tree.proofs.Spans.{positive}
use Rattle.tree.proofs.Paths.{paths_past}
use Rattle.tree.proofs.Lays.{lay_one, lay_again}
use Rattle.tree_grow.proofs.lay.Goals as goal

pub loop-i-preserved : goal.loop-i-preserved
loop-i-preserved c =
    let a = c.args in
    let l = c.loop-i in
    let pre = c.requires in (
      omega arith,
      omega arith,
      λ fs old hp. lay_again a.d a.c pre.3 l.i (omega arith) (omega arith) a.n c.place-from.result c.place.result fs l.paths _ old (omega arith) (omega arith) (omega arith) (omega arith) pre.4 (omega arith)
          c.place-from.ensures.0 c.place.ensures.0 c.repeat_at.ensures (l.invariant.2 fs old hp),
    )

pub returns : goal.returns
returns c =
    let place = c.place-from in
    λ fs old hh hp.
    let a = c.args in let l = c.loop-i in let pre = c.requires in let w = 2 ^ a.d in let p = positive a.d in
    l.invariant.2 fs old (lay_one a.d a.c pre.3 a.c (omega arith) (omega arith) a.n place.result fs (digest a.h.now) a.paths.now _ old (omega arith) (omega arith) pre.4 place.ensures.0 c.put_digest.ensures hh hp)
    ∙ ⊎_elim (λ h. let q : l.i ≡ a.c + w = omega arith in ap (λ (x : ℕ). paths_to a.n fs a.d x old) q) (λ h. paths_past a.n fs a.d l.i (a.c + w) old (omega arith) h) (lt_or_le (a.c + w) a.n)
