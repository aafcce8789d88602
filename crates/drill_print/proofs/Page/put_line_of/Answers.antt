use native.Mathlib.Omega.{arith}
use Rattle.drill_print.specs.Text.{line_text}
use Rattle.drill_print.proofs.Prints.{wrote_both}
use Rattle.drill_print.proofs.Page.put_line_of.Goals as goal

pub returns : goal.returns
unfolding line_text
returns c =
    let from = rw c.number_in.ensures at c.put_number-2.ensures.0 in
    let to = rw c.number_in-2.ensures at c.put_number-3.ensures.0 in (
      rw (← c.kind_in.ensures)
          (wrote_both c.put_number.ensures.0 (wrote_both c.put_letter.ensures.0 (wrote_both from (wrote_both to (wrote_both c.put_number-4.ensures.0 (wrote_both c.put_letter-2.ensures.0 c.put_outcome.ensures.0)))))),
      omega (arith, c.put_number.ensures.1, c.put_letter.ensures.1, c.put_number-2.ensures.1, c.put_number-3.ensures.1, c.put_number-4.ensures.1, c.put_letter-2.ensures.1, c.put_outcome.ensures.1),
    )
