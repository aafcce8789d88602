use Prim.Native.Nat.{◌+◌, ◌-◌}
use mathlib.Core.Path.{◌≡◌, sym, ap, ◌∙◌}
use native.Mathlib.Omega.{arith}
use lib.ListN.{length-set}
use Rattle.octets.proofs.Tables.{tab_step}
use Rattle.sha256_strings.proofs.load_inside.Goals as goal

pub loop-i-preserved : goal.loop-i-preserved
loop-i-preserved c =
    let l = c.loop-i in
    let a = c.args in
    let e : a.t + (l.i - a.t) ≡ l.i = omega arith in (
      omega arith,
      omega arith,
      simp length-set l.invariant.2,
      λ f hf h. tab_step f l.w l.i c.four_at.result (omega arith) (l.invariant.3 f hf h)
          (c.four_at.ensures.0 ∙ sym (hf (l.i - a.t) (omega arith)) ∙ ap f e),
    )
