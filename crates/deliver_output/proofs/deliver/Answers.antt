-- `deliver_output::deliver` meets its contract.
-- Assumes nothing.
use mathlib.Core.Path.{sym, ap, ◌∙◌, subst}
use mathlib.Core.List.{List}
use Prim.Native.Nat.{ℕ, ◌-◌, ◌*◌}
use lib.ListN.{take}
use Rattle.octets.specs.Bytes.{two_at, part}
use Rattle.table.specs.Table.{k_of, s_max}
use Rattle.table.proofs.Within.{within}
use Rattle.code_through.specs.Through.{marks}
use Rattle.deliver.specs.Delivered.{result_of, result_from, left_by}
use Rattle.deliver.proofs.Delivering.{Kept, kept_first, lowest}
use native.Mathlib.Omega.{arith}
use Rattle.deliver_output.proofs.deliver.Goals as goal

pub members-requires : goal.members-requires
members-requires c =
    let a = c.args in
    let p = c.requires in
    let w = within _ a.b.within in
    (w.few, omega (arith, w.few))

pub deliver_from-requires : goal.deliver_from-requires
deliver_from-requires c =
    let a = c.args in
    let p = c.requires in
    let members = c.members in
    let fragments_needed = c.fragments_needed-k in
    let fragment_most = c.fragment_most-s in
    let list = members.new.out in
    let few = (within _ a.b.within).few in
    let e = lowest a.b.table a.set list members.result fragments_needed.result p.2 p.3 (omega (arith, members.auto.out, members.ensures.0))
    members.ensures.1
    fragments_needed.ensures.0 in
    let kept = subst (λ (s : ℕ). Kept a.b.table a.lengths.now a.area.now s (take fragments_needed.result list)) (sym fragment_most.ensures.0)
    (subst (Kept a.b.table a.lengths.now a.area.now (s_max a.b.table)) (sym e)
    (kept_first a.b.table a.lengths.now a.area.now a.set a.b.within p.0 p.1 p.2 p.3 p.4)) in
    (fragment_most.ensures.0, kept.0, kept.1, kept.2, kept.3, kept.4, p.5, p.6)

pub returns : goal.returns
unfolding result_of
returns c =
    let a = c.args in
    let p = c.requires in
    let members = c.members in
    let fragments_needed = c.fragments_needed-k in
    let fragment_most = c.fragment_most-s in
    let list = members.new.out in
    let few = (within _ a.b.within).few in
    let e = lowest a.b.table a.set list members.result fragments_needed.result p.2 p.3 (omega (arith, members.auto.out, members.ensures.0))
    members.ensures.1
    fragments_needed.ensures.0 in
    c.deliver_from.ensures ∙ ap (λ (xs : List ℕ). left_by (result_from a.b.table a.root.now xs (λ i. part ((i - 1) * fragment_most.result) (two_at
    a.lengths.now (2 * (i - 1))) a.area.now)) a.out.now) e ∙ ap (λ (s : ℕ). left_by (result_from a.b.table a.root.now (take (k_of a.b.table) (marks 1
    a.b.table.n a.set)) (λ i. part ((i - 1) * s) (two_at a.lengths.now (2 * (i - 1))) a.area.now)) a.out.now) fragment_most.ensures.0
