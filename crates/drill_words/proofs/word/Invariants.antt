use mathlib.Core.Path.{◌≡◌}
use Rattle.drill_words.specs.Words.{skip}
use Rattle.drill_words.proofs.word.Given as goal

abbrev pub invariant-loop : goal.invariant-loop
invariant-loop l = l.rest ≡ skip l.counter l.s
