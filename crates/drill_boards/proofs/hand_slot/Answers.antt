use mathlib.Core.Path.{refl, ◌∙◌}
use native.Mathlib.Omega.{arith}
use lib.ListN.{length}
use Rattle.drill_words.proofs.Fronts.{front}
use Rattle.drill_boards.proofs.hand_slot.Goals as goal

pub returns : goal.returns
returns c =
    let r = c.slot-r.result.now in
    (front (length r) r c.args.handed.now c.copy_bytes.new.dst refl (omega arith) c.copy_bytes.ensures ∙ c.slot-r.ensures.0, omega arith)
