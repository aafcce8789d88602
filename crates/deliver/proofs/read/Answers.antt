-- `deliver::read` meets its contract.
-- Assumes nothing.
use mathlib.Core.Path.{sym, ap, ◌∙◌}
use Prim.Native.Nat.{ℕ, ◌*◌}
use native.Mathlib.Omega.{arith}
use lib.ListN.{length}
use Rattle.table.proofs.Within.{within}
use Rattle.deliver.proofs.Delivering.{rows_hold, rows_before, unread_short, unread_long, unread_rows}
use Rattle.deliver.proofs.read.Goals as goal

pub returns-then-len-k-lt4-clause-read : goal.returns-then-len-k-lt4-clause-read
returns-then-len-k-lt4-clause-read c =
    let a = c.args in let p = c.requires in λ g M root. unread_short a.b.table root g (length a.kept.now.points.now) a.len 0 a.b.within p.0 M.size c.if-len-k-lt4.true

pub returns-then-b-size-clause-read : goal.returns-then-b-size-clause-read
returns-then-b-size-clause-read c =
    let a = c.args in
    let p = c.requires in
    λ g M root. unread_long a.b.table root g (length a.kept.now.points.now) a.len c.size_in-size.result a.b.within p.0 M.size (c.size_in-size.ensures a.len g M (omega (arith, c.if-len-k-lt4.false))) c.if-b-size.true

pub row_count-requires : goal.row_count-requires
row_count-requires c =
    let a = c.args in let p = c.requires in let r = a.kept.now.ready in let w = within _ a.b.within in (omega (arith, w.short, c.if-b-size.false), r.some, r.few)

pub returns-then-row_count-len-clause-read : goal.returns-then-row_count-len-clause-read
returns-then-row_count-len-clause-read c =
    let a = c.args in
    let p = c.requires in
    λ g M root.
    unread_rows a.b.table root g (length a.kept.now.points.now) a.len c.size_in-size.result a.b.within p.0 M.size (c.size_in-size.ensures a.len g M (omega (arith, c.if-len-k-lt4.false))) (λ e. c.if-row_count-len.true (c.row_count.ensures ∙ e))

pub overflow_add-size : goal.overflow_add-size
overflow_add-size c =
    let w = within _ c.args.b.within in
    omega (arith, w.short, c.if-b-size.false)

pub last_row-requires : goal.last_row-requires
last_row-requires c =
    let size_in = c.size_in-size in
    let a = c.args in
    let p = c.requires in
    (p.1, p.2, p.3, p.4, size_in.auto.row ∙ p.5, size_in.auto.ts ∙ p.6, size_in.auto.es ∙ p.7, rows_before (length a.kept.now.points.now) size_in.result a.len a.kept.now.ready.some p.3 (sym c.row_count.ensures ∙ c.if-row_count-len.false))

pub returns-clause-fits : goal.returns-clause-fits
returns-clause-fits c =
    let k = length c.args.kept.now.points.now in
    (omega arith, omega (arith, rows_hold k c.size_in-size.result c.args.kept.now.ready.some, ap (λ (n : ℕ). n * k) (sym c.row_count.ensures ∙ c.if-row_count-len.false)))
