-- `field::Element::power` meets its contract, by the rule of the table of powers; the powers repeat after 255.
-- Assumes nothing.
use Prim.Native.Nat.{ℕ, ◌-◌, ◌%◌, ◌<◌, ◌≤◌}
use mathlib.Core.Path.{◌≡◌, ap, ◌∙◌}
use mathlib.Core.Logic.{⊎_elim}
use native.Mathlib.Omega.{arith}
use Rattle.octets.proofs.Walk.{lt_or_le}
use Rattle.field.specs.Field.{power}
use Rattle.field.specs.Tables.{powers}
use Rattle.field.proofs.Powers.{powers_at, power_less}
use Rattle.field.proofs.Element.power.Goals as goal

turned : (e : ℕ) → e < 510 → power (e % 255) ≡ power e
turned e h =
    ⊎_elim (λ (l : e < 255). let q : e % 255 ≡ e = omega arith in ap power q)
    (λ (g : 255 ≤ e). let q : e % 255 ≡ e - 255 = omega arith in ap power q ∙ power_less e g) (lt_or_le e 255)

pub returns : goal.returns
unfolding powers
returns c = powers_at (c.args.e % 255) (omega arith) ∙ turned c.args.e c.requires
