use mathlib.Core.Path.{sym, ◌∙◌}
use borrow.Author.Tests.{ltb-false}
use Rattle.octets.specs.Bytes.{pick}
use Rattle.octets.proofs.Picks.{or_none_l}
use Rattle.table.proofs.Within.{within}
use Rattle.code_calls.specs.Rebuilding.{rebuild_refusal, too_short}
use Rattle.code_calls.proofs.Taken.{ok_length}
use Rattle.code_calls.proofs.may_rebuild.Goals as goal

pub short-requires : goal.short-requires
short-requires c = ((within _ c.args.b.within).few, c.fragments_needed-k.ensures.3, c.fragment_most-most.ensures.1)

pub returns-then-short-clause-number : goal.returns-then-short-clause-number
unfolding rebuild_refusal pick
returns-then-short-clause-number c =
    rw (c.args.b.within, ← c.fragments_needed-k.ensures.0, ← c.fragment_most-most.ensures.0, ← c.short.ensures, c.if-short.true)

pub below-requires : goal.below-requires
below-requires c = (within _ c.args.b.within).few

pub returns-then-not-below-clause-number : goal.returns-then-not-below-clause-number
unfolding rebuild_refusal pick
returns-then-not-below-clause-number c =
    rw (
      c.args.b.within,
      ← c.fragments_needed-k.ensures.0,
      ← c.fragment_most-most.ensures.0,
      ← c.short.ensures,
      c.if-short.false,
      ← c.below.ensures,
      c.if-not-below.true,
    )

pub by_lengths-requires : goal.by_lengths-requires
unfolding too_short
by_lengths-requires c = ((within _ c.args.b.within).few, ltb-false _ _ (or_none_l _ _ (sym c.short.ensures ∙ c.if-short.false)))

pub returns-clause-number : goal.returns-clause-number
unfolding rebuild_refusal pick
returns-clause-number c =
    rw (
      c.args.b.within,
      ← c.fragments_needed-k.ensures.0,
      ← c.fragment_most-most.ensures.0,
      ← c.short.ensures,
      c.if-short.false,
      ← c.below.ensures,
      c.if-not-below.false,
      ← c.by_lengths.ensures.number,
    )

pub returns-clause-length : goal.returns-clause-length
returns-clause-length c =
    let a = c.args in ok_length a.b.table a.marked a.lengths.now a.area.now a.block.now c.by_lengths.result (returns-clause-number c) c.by_lengths.ensures.length
