-- `deliver::byte_at` meets its contract.
-- Assumes nothing.
use mathlib.Core.Path.{ap, ◌∙◌}
use Prim.Native.Nat.{ℕ, ◌%◌}
use native.Mathlib.Nat as N
use lib.ListN.{length, get_or}
use Rattle.deliver.proofs.byte_at.Goals as goal

pub returns : goal.returns
returns c =
    let a = c.args in let k = length a.kept.now.points.now in
    λ len b M h e. let R = c.begin_row.ensures len b M h e in (R (a.p % k) (N.mod-lt a.p c.args.kept.now.ready.some) ∙ ap (λ (i : ℕ). get_or b i 0) (N.div-add-mod' a.p k), R)
