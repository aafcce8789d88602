use mathlib.Core.Path.{◌∙◌}
use native.Mathlib.Omega.{arith}
use Prim.Native.Nat.{◌+◌}
use lib.ListN.{length, drop_of_length-le}
use Rattle.drill_words.proofs.Finding.{front_at, rest_at, front_all, rest_none, to_end}
use Rattle.drill_words.proofs.cut.Goals as goal

pub returns-in-Some : goal.returns-in-Some
returns-in-Some c = (front_at c.args.c c.in-Some.i c.args.s.now c.in-Some.ensures, to_end (c.in-Some.i + 1) c.args.s.now ∙ rest_at c.args.c c.in-Some.i c.args.s.now c.in-Some.ensures)

pub returns-in-None : goal.returns-in-None
returns-in-None c = (front_all c.args.c c.args.s.now c.in-None.ensures, to_end (length c.args.s.now) c.args.s.now ∙ drop_of_length-le c.args.s.now (omega arith) ∙ rest_none c.args.c c.args.s.now c.in-None.ensures)
