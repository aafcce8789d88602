-- `deliver::size_in` meets its contract.
-- Assumes nothing.
use mathlib.Core.Path.{◌≡◌, ◌∙◌, subst}
use mathlib.Core.Logic.{⊎_elim}
use Prim.Native.Nat.{ℕ, ◌+◌, ◌-◌, ◌<◌, ◌≤◌}
use native.Mathlib.Nat as N
use native.Mathlib.Omega.{arith}
use lib.ListN.{length, length-set}
use lib.Seq.{get_or-set_same, get_or-set_other}
use Rattle.octets.specs.Bytes.{four_at}
use Rattle.deliver.specs.Working.{Row}
use Rattle.deliver.proofs.Lines.{row_before}
use Rattle.deliver.proofs.size_in.Goals as goal

pub loop-p-preserved : goal.loop-p-preserved
loop-p-preserved c =
    let l = c.loop-p in (
      simp length-set l.invariant.0,
      let k = length c.args.kept.now.points.now in
          let some = c.args.kept.now.ready.some in
          λ len b M h.
          let w = l.invariant.1 len b M h in
          let r = c.byte_at.ensures len b M (omega arith) (λ g. subst (λ (d : ℕ). Row k b d l.row) (row_before l.p k some g) (w.1 (omega (arith, N.zero-mod k, g)))) in
          let back : l.p + 1 - 1 ≡ l.p = omega arith in (
            (λ q g.
                ⊎_elim
                (λ (e : q ≡ l.p). rw e (get_or-set_same l.head l.p c.byte_at.result 0 (omega (arith, l.invariant.0)) ∙ r.0))
                (λ (lt : q < l.p). get_or-set_other l.head l.p q c.byte_at.result 0 (λ z. omega arith) ∙ w.0 q lt)
                (N.eq-or-lt_of_le (let h : q ≤ l.p = omega arith in h))),
            λ g. rw back r.1,
          ),
    )

pub returns : goal.returns
unfolding four_at
returns c =
    λ len b M h. let w = (c.loop-p.invariant.1 len b M h).0 in omega (arith, c.four_at.ensures.0, w 0 (omega arith), w 1 (omega arith), w 2 (omega arith), w 3 (omega arith))
