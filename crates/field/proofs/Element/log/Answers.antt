-- `field::Element::log` meets its contract, by the rule of the table of logarithms.
-- Assumes nothing.
use Prim.Native.Nat.{ℕ}
use mathlib.Core.Path.{◌≡◌, ap, ◌∙◌}
use native.Mathlib.Omega.{arith}
use lib.ListN.{get_or}
use Rattle.field.specs.Tables.{logs}
use Rattle.field.proofs.Powers.{logs_lt, power_log}
use Rattle.field.proofs.Element.log.Goals as goal

pub returns : goal.returns
unfolding logs
returns c =
    let a = c.args.self.0 in
    let e : c.from-2.result ≡ get_or logs a 0 = c.from-2.ensures ∙ ap (λ (k : ℕ). get_or logs k 0) c.from.ensures in
    rw e (logs_lt a (omega arith), power_log a c.requires (omega arith))
