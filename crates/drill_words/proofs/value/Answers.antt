use mathlib.Core.Path.{sym, ap, ◌∙◌}
use Prim.Native.Nat.{ℕ, ◌+◌}
use lib.ListN.{drop}
use Rattle.drill_words.specs.Numbers.{value_of}
use Rattle.drill_words.proofs.Counting.{value_turn, value_end, value_over}
use Rattle.drill_words.proofs.value.Goals as goal

pub returns-in_err-v : goal.returns-in_err-v
returns-in_err-v c =
    let rest = drop (c.loop-x.x-index + 1) c.args.w.now in
    rw c.from_residual.ensures
    (sym (sym c.loop-x.invariant.rest ∙ value_turn c.args.w.now c.loop-x.x-index c.loop-x.v c.loop-x-test.true ∙ ap (λ (v : ℕ). value_of v rest) (sym c.in_err-v.ensures.0) ∙ value_over rest), tt)

pub loop-x-preserved : goal.loop-x-preserved
loop-x-preserved c = record {
  few = c.in_ok-v.ensures.1;
  rest = rw c.in_ok-v.ensures.0 (sym (value_turn c.args.w.now c.loop-x.x-index c.loop-x.v c.loop-x-test.true) ∙ c.loop-x.invariant.rest);
}

pub returns : goal.returns
returns c = (sym (value_end c.args.w.now c.loop-x.x-index c.loop-x.v c.loop-x-test.false) ∙ c.loop-x.invariant.rest, c.loop-x.invariant.few)
