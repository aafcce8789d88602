use native.Mathlib.Omega.{arith}
use Rattle.drill_print.specs.Text.{bad}
use Rattle.drill_print.proofs.Prints.{wrote_both, wrote_to}
use Rattle.drill_print.proofs.Page.put_bad.Goals as goal

pub returns : goal.returns
unfolding bad
returns c = (wrote_both c.put.ensures (wrote_both c.put_decimal.ensures.0 c.put-2.ensures), omega (arith, wrote_to c.put.ensures, c.put_decimal.ensures.1, wrote_to c.put-2.ensures))
