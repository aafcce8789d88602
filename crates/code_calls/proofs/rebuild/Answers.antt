use mathlib.Core.Bool.{true}
use mathlib.Core.Path.{sym, subst}
use Prim.Native.Nat.{◌*◌}
use native.Mathlib.Omega.{arith}
use Rattle.std.proofs.lemmas.Result.{err_from_is_err_and}
use Rattle.refusal.specs.Answers.{sized}
use Rattle.table.specs.declared.Table.{Table}
use Rattle.code_calls.specs.Rebuilding.{Rebuilds}
use Rattle.code_calls.proofs.Taken.{rebuild_outside, rebuild_refused, rebuilt_made, rebuild_rooms, rebuild_size}
use Rattle.code_calls.proofs.rebuild.Goals as goal

pub returns-in_err-b : goal.returns-in_err-b
returns-in_err-b c =
    let h = c.in_err-b.ensures in
    let p = err_from_is_err_and c.from_residual.result c.from_residual.ensures.1 in
    rw (p.1, p.2, h.0) (rebuild_refused _ _ _ _ _ 1 (λ z. absurd (omega arith)) (rebuild_outside _ _ _ _ _ h.1))

pub rebuild-requires : goal.rebuild-requires
rebuild-requires c =
    rebuild_rooms _ _ _ _ _ (sym c.in_ok-len.ensures.number) _ _ _ c.fragments_needed-k.ensures.0 c.fragment_most-most.ensures.0 c.in_ok-len.ensures.length

pub overflow_mul-result : goal.overflow_mul-result
overflow_mul-result c =
    omega (arith, rebuild_size _ _ _ _ _ (sym c.in_ok-len.ensures.number) _ _ _ c.fragments_needed-k.ensures.0 c.fragment_most-most.ensures.0 c.in_ok-len.ensures.length)

pub overflow_cast-result : goal.overflow_cast-result
overflow_cast-result c =
    omega (arith, rebuild_size _ _ _ _ _ (sym c.in_ok-len.ensures.number) _ _ _ c.fragments_needed-k.ensures.0 c.fragment_most-most.ensures.0 c.in_ok-len.ensures.length)

pub returns-then-rebuild : goal.returns-then-rebuild
returns-then-rebuild c =
    let a = c.args in
    subst (λ (b : Table). Rebuilds b a.marked a.lengths.now a.area.now a.block.now (sized 0 (c.in_ok-len.len * c.fragments_needed-k.result)) c.rebuild.new.out) c.in_ok-b.ensures
    (rebuilt_made _ _ _ _ _ (sym c.in_ok-len.ensures.number) _ _ _ c.fragments_needed-k.ensures.0 c.fragment_most-most.ensures.0 c.in_ok-len.ensures.length true _ (rw c.if-rebuild.true at c.rebuild.ensures))
