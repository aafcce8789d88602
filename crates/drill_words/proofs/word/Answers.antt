use mathlib.Core.Path.{◌≡◌, ap, ◌∙◌, refl}
use native.Mathlib.Numerals.{add-one}
use native.Mathlib.Omega.{arith}
use Rattle.drill_words.specs.Words.{upto, past, skip, word}
use Rattle.drill_words.proofs.Finding.{skip_more}
use Rattle.drill_words.proofs.word.Goals as goal

pub loop-init : goal.loop-init
unfolding skip
loop-init c = refl

pub loop-preserved : goal.loop-preserved
loop-preserved c = c.cut.ensures.1 ∙ ap (past 32) c.loop.invariant ∙ rw add-one (skip_more c.loop.counter c.args.s.now)

pub returns : goal.returns
unfolding word
returns c =
    let e : c.loop.counter ≡ c.args.i = omega arith in
    c.cut-2.ensures.0 ∙ ap (upto 32) c.loop.invariant ∙ rw e
