use mathlib.Core.Path.{◌≡◌}
use Prim.Native.Nat.{◌<◌}
use lib.ListN.{drop}
use Rattle.drill_words.specs.Numbers.{value_of}
use Rattle.drill_words.proofs.value.Given as goal

abbrev pub invariant-loop-x : goal.invariant-loop-x
invariant-loop-x l = record { few : l.v < 10000; rest : value_of l.v (drop l.x-index l.w) ≡ value_of 0 l.w }
