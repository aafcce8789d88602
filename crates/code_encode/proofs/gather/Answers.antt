-- `code_encode::gather` meets its contract.
-- Assumes nothing.
use mathlib.Core.Path.{ap, ◌∙◌}
use mathlib.Core.List.{◌++◌}
use Prim.Native.Nat.{ℕ, ◌+◌, ◌-◌, ◌*◌, ◌<◌}
use native.Mathlib.Omega.{arith}
use lib.ListN.{length, get_or}
use Rattle.code.specs.Block.{header}
use Rattle.code_encode.specs.Patch.{in_block}
use Rattle.code_encode.proofs.Draws.{drawn_all, start_small, count_small, last_inside, place_next}
use Rattle.code_encode.proofs.gather.Goals as goal

pub overflow_mul-from : goal.overflow_mul-from
overflow_mul-from c =
    let a = c.args in
    omega (arith, start_small a.k a.message.now a.c (length a.column.now) a.m c.requires.1 c.requires.3, c.requires.0, c.requires.2)

pub overflow_add-from : goal.overflow_add-from
overflow_add-from c =
    let a = c.args in
    omega (arith, start_small a.k a.message.now a.c (length a.column.now) a.m c.requires.1 c.requires.3, c.requires.0, c.requires.2)

pub gather_any-requires : goal.gather_any-requires
gather_any-requires c =
    let a = c.args in
    let p = c.requires in (
      p.0,
      p.2,
      omega (arith, start_small a.k a.message.now a.c (length a.column.now) a.m p.1 p.3, p.0, p.2),
      omega arith,
      omega (arith, count_small a.k a.message.now a.c (length a.column.now) a.m p.1 p.3, p.0, p.2),
      omega arith,
    )

pub gather_any-requires-2 : goal.gather_any-requires-2
gather_any-requires-2 c =
    let a = c.args in
    let p = c.requires in (
      p.0,
      p.2,
      omega (arith, start_small a.k a.message.now a.c (length a.column.now) a.m p.1 p.3, p.0, p.2),
      omega arith,
      omega (arith, c.min-first.ensures),
      omega (arith, c.min-first.ensures),
    )

pub gather_inside-requires : goal.gather_inside-requires
gather_inside-requires c =
    let a = c.args in
    let p = c.requires in
    let pos : 0 < a.k = omega arith in (
      pos,
      omega (arith, c.min-first.ensures),
      λ g. omega (arith, c.min-first.ensures),
      last_inside a.k a.message.now a.c (length a.column.now) a.m p.1 p.3 p.4,
      p.2,
      omega (arith, c.gather_any-2.auto.column),
    )

pub gather_any-requires-3 : goal.gather_any-requires-3
gather_any-requires-3 c =
    let a = c.args in
    let p = c.requires in (
      p.0,
      p.2,
      omega (arith, start_small a.k a.message.now a.c (length a.column.now) a.m p.1 p.3, p.0, p.2),
      omega arith,
      omega (arith, count_small a.k a.message.now a.c (length a.column.now) a.m p.1 p.3, p.0, p.2),
      omega (arith, c.gather_any-2.auto.column, c.gather_inside.auto.column),
    )

pub returns : goal.returns
returns c =
    let least = c.min-first in let gather_any2 = c.gather_any-2 in let gather_inside = c.gather_inside in
    let a = c.args in
    λ i h.
    drawn_all least.result (length a.column.now - 1) (length a.column.now) (in_block a.message.now a.k (a.c * a.k + a.m)) a.column.now gather_any2.new.column gather_inside.new.column c.gather_any-3.new.column gather_any2.ensures gather_inside.ensures c.gather_any-3.ensures (omega (arith, least.ensures)) i h
    ∙ ap (λ (p : ℕ). get_or (header (length a.message.now) ++ a.message.now) p 0) (place_next a.c a.k a.m i)
