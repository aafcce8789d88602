-- `deliver_afresh::fill_rows` meets its contract.
-- Assumes nothing.
use mathlib.Core.Path.{◌≡◌, ap, ◌∙◌}
use Prim.Native.Nat.{ℕ, ◌+◌, ◌-◌}
use lib.ListN.{length, get_or}
use Rattle.code_sum.specs.Sums.{weighed}
use native.Mathlib.Omega.{arith}
use Rattle.deliver_afresh.proofs.fill_rows.Goals as goal

pub returns-then-at-eq0 : goal.returns-then-at-eq0
returns-then-at-eq0 c =
    let move_up = c.move_up in
    let a = c.args in (
      (λ e. move_up.ensures.0),
      λ i h g l. let p : i ≡ i - 1 + 1 = omega arith in let q : 0 + (i - 1) ≡ a.at + i - 1 = omega (arith, c.if-at-eq0.true) in ap (λ (j : ℕ). get_or
          move_up.new.buffer j 0) p ∙ move_up.ensures.1 (i - 1) (omega arith) ∙ c.combine.ensures (i - 1) (omega (arith, c.min-n.ensures)) ∙ ap (λ (d : ℕ). weighed
          a.kept.now.area.now a.kept.now.s a.kept.now.points.now a.ws.now d (length a.kept.now.points.now)) q,
    )
