use Rattle.drill_words.proofs.Storing.{decode_turn, decode_end}
use native.Mathlib.Omega.{arith}
use mathlib.Core.Path.{sym, ◌∙◌}
use Rattle.drill_words.proofs.decode.Goals as goal

pub loop-i-preserved : goal.loop-i-preserved
loop-i-preserved c = sym (decode_turn _ _ _ _ (omega arith) c.hex_byte.ensures) ∙ c.loop-i.invariant

pub returns : goal.returns
returns c = sym (decode_end _ _ _ (omega arith)) ∙ c.loop-i.invariant
