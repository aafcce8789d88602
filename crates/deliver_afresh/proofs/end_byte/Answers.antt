-- `deliver_afresh::end_byte` meets its contract.
-- Assumes nothing.
use mathlib.Core.Path.{◌≡◌, sym, ap, ◌∙◌}
use mathlib.Core.List.{◌∷◌}
use Prim.Native.Nat.{ℕ}
use native.Mathlib.Omega.{arith}
use lib.ListN.{get_or}
use Rattle.sha256.specs.Sha256.{pad}
use Rattle.deliver_afresh.proofs.Hashing.{in_string}
use Rattle.deliver_afresh.proofs.end_byte.Goals as goal

pub returns-then-i-len-2 : goal.returns-then-i-len-2
returns-then-i-len-2 c =
    let a = c.args in
    λ f e g some. (
      (λ h. absurd (omega arith)),
      λ h. let z : a.i ≡ a.len = omega arith in sym (ap (λ (i : ℕ). get_or (pad (0 ∷ f)) i 0) z ∙ in_string f
          a.len some (omega arith) ∙ g),
    )
