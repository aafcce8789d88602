use Prim.Native.Nat.{ℕ}
use mathlib.Core.Bool.{true, ◌&&◌}
use mathlib.Core.Path.{◌≡◌, sym, ◌∙◌, subst}
use native.Mathlib.Omega.{arith}
use borrow.Author.Tests.{ltb-true}
use lib.Dec.{ltb}
use Rattle.octets.proofs.Picks.{and_l, and_r}
use Rattle.tree.specs.Levels.{middle}
use Rattle.tree_stack.proofs.Stacks.{Rising, rising_first, rising_more, rising_stays, rising_done}
use Rattle.tree_stack.proofs.raise.Goals as goal

pub loop-d-init : goal.loop-d-init
loop-d-init c = (omega arith, c.top_of-at.ensures.0, rising_first _ _ _)

pub returns-then-stays : goal.returns-then-stays
returns-then-stays c =
    let a = c.args in
    λ fs hx s. let a = a in let l = c.loop-d in let m = middle l.d a.i in let both : ltb a.i m && ltb m a.n ≡ true = sym
    c.stays.ensures ∙ c.if-stays.true in rising_stays a.n a.i l.d a.stack.now l.stack (omega arith) (omega arith) (omega arith)
    (omega (arith, c.levels_of-d-end.ensures)) l.invariant.2 (ltb-true a.i m (and_l (ltb a.i m) (ltb m a.n) both))
    (ltb-true m a.n (and_r (ltb a.i m) (ltb m a.n) both)) fs hx s

pub loop-d-preserved : goal.loop-d-preserved
loop-d-preserved c =
    let levels_of = c.levels_of-d-end in let stays = c.stays in
    let a = c.args in let l = c.loop-d in
    let lift = c.lift-at in (
      omega (arith, levels_of.ensures),
      lift.ensures.0,
      rising_more a.n a.i l.d a.stack.now l.stack (omega arith) (omega arith) (omega arith)
          (omega (arith, levels_of.ensures)) l.invariant.2 lift.result lift.new.stack lift.ensures.0 (sym stays.ensures ∙ c.if-stays.false)
          lift.ensures.1,
    )

pub returns : goal.returns
returns c =
    let a = c.args in
    λ fs hx s. let a = a in let l = c.loop-d in let e : l.d ≡ 6 = omega (arith, c.levels_of-d-end.ensures) in rising_done a.n a.i a.stack.now l.stack
    (omega arith) (omega arith) (subst (λ (d : ℕ). Rising a.n a.i d a.stack.now l.stack) e l.invariant.2) fs hx s
