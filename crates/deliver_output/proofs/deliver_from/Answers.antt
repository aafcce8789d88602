-- `deliver_output::deliver_from` meets its contract.
-- Assumes nothing.
use mathlib.Core.Path.{refl, sym, ap, ◌∙◌}
use mathlib.Core.List.{List}
use mathlib.Core.Option.{Option}
use Prim.Native.Nat.{ℕ, ◌-◌, ◌*◌, ◌<◌}
use native.Mathlib.Omega.{arith}
use lib.ListN.{length, get_or}
use Rattle.octets.specs.Bytes.{two_at, part}
use Rattle.table.proofs.Within.{within, k_pos, k_few, s_max_le}
use Rattle.deliver.specs.Delivered.{result_from, left_by}
use Rattle.deliver.proofs.Lengths.{lengths_at}
use Rattle.deliver.proofs.Delivering.{left_void, sized, unequal, equal}
use Rattle.deliver_output.proofs.deliver_from.Goals as goal

pub bounds-points-0 : goal.bounds-points-0
bounds-points-0 c =
    let a = c.args in let p = c.requires in omega (arith, p.1, k_pos _ (within _ a.b.within))

pub length_of-len-requires : goal.length_of-len-requires
length_of-len-requires c =
    let a = c.args in let pre = c.requires in let p = pre.2 0 (omega (arith, pre.1, k_pos _ (within _ a.b.within))) in (p.0, p.1, omega (arith, p.2))

pub returns-then-not-all_of_length : goal.returns-then-not-all_of_length
returns-then-not-all_of_length c =
    let a = c.args in let p = c.requires in let fragment : ℕ → List ℕ = λ i. part ((i - 1) * a.s) (two_at a.lengths.now (2 * (i - 1))) a.area.now in
    let sizes = sized a.lengths.now a.area.now a.s a.points.now p.3 p.5 in let z : 0 < length a.points.now = omega (arith, p.1, k_pos _ (within _ a.b.within)) in
    left_void a.out.now (result_from a.b.table a.root.now a.points.now fragment)
    (unequal a.b.table a.root.now a.points.now fragment c.length_of-len.result (c.length_of-len.ensures ∙ sym (sizes 0 z)) c.all_of_length.result (c.all_of_length.ensures fragment sizes) c.if-not-all_of_length.true)

pub invariant_of-kept : goal.invariant_of-kept
invariant_of-kept c =
    let a = c.args in
    let pre = c.requires in
    let w = within _ a.b.within in
    record { ready = record { boards = pre.3; short = omega (arith, pre.0, s_max_le _ w); some = omega (arith, pre.1, k_pos _ w); few = omega (arith, pre.1, k_few _ w); scales = refl }; bytes = ((λ i. omega (arith, c.type_inv.area i)), λ i. omega (arith, c.type_inv.points i)) }

pub returns : goal.returns
returns c =
    let length_of = c.length_of-len in let all_of_length = c.all_of_length in
    let a = c.args in
    let p = c.requires in let fragment : ℕ → List ℕ = λ i. part ((i - 1) * a.s) (two_at a.lengths.now (2 * (i - 1))) a.area.now in
    let sizes = sized a.lengths.now a.area.now a.s a.points.now p.3 p.5 in let z : 0 < length a.points.now = omega (arith, p.1, k_pos _ (within _ a.b.within)) in
    let y = c.if-not-all_of_length.false in let all = all_of_length.ensures fragment sizes in
    c.deliver_in.ensures fragment (λ i h. ap (λ (n : ℕ). part ((get_or a.points.now i 0 - 1) * a.s) n a.area.now) (sym (sizes i h) ∙ lengths_at length_of.result a.points.now fragment (sym all ∙ y) i h))
    ∙ ap (λ (o : Option (List ℕ)). left_by o a.out.now) (sym (equal a.b.table a.root.now a.points.now fragment length_of.result (length_of.ensures ∙ sym (sizes 0 z)) all_of_length.result all y))
