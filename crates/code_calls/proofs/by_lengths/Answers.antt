use mathlib.Core.Path.{ap, ◌∙◌}
use native.Mathlib.Omega.{arith}
use borrow.Author.Tests.{lt-ltb, le-ltb}
use Rattle.octets.specs.Bytes.{pick}
use Rattle.code_calls.specs.Rebuilding.{by_lengths, common_length, length_at}
use Rattle.code_calls.proofs.Firsts.{no_lengths}
use Rattle.code_calls.proofs.by_lengths.Goals as goal

pub returns-then-some_outside-clause-number : goal.returns-then-some_outside-clause-number
unfolding by_lengths pick
returns-then-some_outside-clause-number c = rw (← c.some_outside.ensures, c.if-some_outside.true)

pub returns-then-size-k-clause-number : goal.returns-then-size-k-clause-number
unfolding by_lengths pick
returns-then-size-k-clause-number c = rw (← c.some_outside.ensures, c.if-some_outside.false, ← c.size.ensures.0, lt-ltb _ _ c.if-size-k.true)

pub returns-in_default-clause-number : goal.returns-in_default-clause-number
unfolding by_lengths pick
returns-in_default-clause-number c =
    let a = c.args in
    rw (
      ← c.some_outside.ensures,
      c.if-some_outside.false,
      ← c.size.ensures.0,
      le-ltb _ _ c.if-size-k.false,
      no_lengths a.n (common_length a.n a.marked a.lengths.now) (common_length a.n a.marked a.lengths.now) a.marked a.lengths.now c.in_default.ensures,
    )

pub returns-then-some_outside-2-clause-number : goal.returns-then-some_outside-2-clause-number
unfolding by_lengths pick common_length
returns-then-some_outside-2-clause-number c =
    rw (
      ← c.some_outside.ensures,
      c.if-some_outside.false,
      ← c.size.ensures.0,
      le-ltb _ _ c.if-size-k.false,
      ← c.in-Some.ensures.0,
      ← c.length_at-len.ensures.0,
      ← c.some_outside-2.ensures,
      c.if-some_outside-2.true,
    )

pub returns-clause-number : goal.returns-clause-number
unfolding by_lengths pick common_length
returns-clause-number c =
    rw (
      ← c.some_outside.ensures,
      c.if-some_outside.false,
      ← c.size.ensures.0,
      le-ltb _ _ c.if-size-k.false,
      ← c.in-Some.ensures.0,
      ← c.length_at-len.ensures.0,
      ← c.some_outside-2.ensures,
      c.if-some_outside-2.false,
    )

pub returns-clause-length : goal.returns-clause-length
unfolding common_length
returns-clause-length c =
    let f = c.in-Some.ensures in (λ h. c.length_at-len.ensures.0 ∙ ap (length_at c.args.lengths.now) f.0, λ h. absurd (omega (arith, f.0, f.1, h)))
