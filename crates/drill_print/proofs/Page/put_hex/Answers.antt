use native.Mathlib.Omega.{arith}
use lib.ListN.{take, length-take}
use Rattle.drill_words.specs.Numbers.{hex_of}
use Rattle.drill_print.proofs.Prints.{wrote_none, wrote_both, wrote_to, hex_length, hex_more}
use Rattle.drill_print.proofs.Page.put_hex.Goals as goal

pub loop-x-init : goal.loop-x-init
unfolding hex_of
loop-x-init c = wrote_none c.args.self.now

pub put-requires : goal.put-requires
put-requires c =
    let l = c.loop-x in
    omega (arith, wrote_to l.invariant, hex_length (take l.x-index c.args.s.now), length-take l.x-index c.args.s.now, l.invariant.long, c.requires, c.loop-x-test.true)

pub loop-x-preserved : goal.loop-x-preserved
loop-x-preserved c = rw (← hex_more c.args.s.now c.loop-x.x-index c.loop-x-test.true, ← c.letter_of.ensures, ← c.letter_of-in-loop-x.ensures) (wrote_both c.loop-x.invariant c.put.ensures)
