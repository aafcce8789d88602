use mathlib.Core.Path.{◌≡◌, sym, ap, ap₂, ◌∙◌}
use mathlib.Core.List.{List, ◌++◌}
use Prim.Native.Nat.{ℕ, ◌+◌, ◌-◌, ◌/◌}
use native.Mathlib.Omega.{arith}
use lib.ListN.{length, take, set, length-set}
use Rattle.code_through.specs.Through.{marks}
use Rattle.code_through.proofs.Marks.{take_board, skip_board, last_board}
use Rattle.code_through.proofs.members.Goals.{then-rest-eq1, else-rest-eq1}
use Rattle.code_through.proofs.members.Goals as goal

pub loop-i-preserved : goal.loop-i-preserved
loop-i-preserved c =
    let n = c.args.n in
    let l = c.loop-i in
    let b = c.if-rest-eq1 in
    elim b.branch [
      | then-rest-eq1 w ↦
          let o : b.out ≡ set l.out l.m (l.i + 1) = w.out-is in
          let m : b.m ≡ l.m + 1 = w.m-is in (
            omega arith,
            omega arith,
            ap length o ∙ length-set l.out l.m (l.i + 1) ∙ l.invariant.2,
            l.invariant.3 ∙ take_board l.out l.m (l.i + 1) n l.i l.rest (omega arith) (omega arith) w.if-rest-eq1.true
                ∙ sym (ap₂ (λ (p : ℕ) (t : List ℕ). take p t ++ marks (l.i + 1 + 1) (n - (l.i + 1)) (l.rest / 2)) m o),
          )
      | else-rest-eq1 w ↦
          let o : b.out ≡ l.out = w.out-is in
          let m : b.m ≡ l.m = w.m-is in (
            omega arith,
            omega arith,
            ap length o ∙ l.invariant.2,
            l.invariant.3 ∙ skip_board l.out l.m (l.i + 1) n l.i l.rest (omega arith) w.if-rest-eq1.false
                ∙ sym (ap₂ (λ (p : ℕ) (t : List ℕ). take p t ++ marks (l.i + 1 + 1) (n - (l.i + 1)) (l.rest / 2)) m o),
          )
    ]

pub returns : goal.returns
returns c =
    let l = c.loop-i in
    (omega arith, sym (l.invariant.3 ∙ last_board l.out l.m (l.i + 1) c.args.n l.i l.rest (omega arith)))
