use lib.ListN.{take}
use Rattle.drill_words.specs.Numbers.{hex_of}
use Rattle.drill_print.specs.Printed.{Wrote}
use Rattle.drill_print.proofs.Page.put_hex.Given as goal

abbrev pub invariant-loop-x : goal.invariant-loop-x
invariant-loop-x l = Wrote (hex_of (take l.x-index l.s)) l.initial.self l.self
