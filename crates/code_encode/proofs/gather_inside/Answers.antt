use mathlib.Core.List.{◌++◌}
use mathlib.Core.Path.{ap, ◌∙◌}
use Prim.Native.Nat.{ℕ, ◌+◌, ◌≤◌}
use native.Mathlib.Omega.{arith}
use native.Mathlib.Nat as N
use lib.ListN.{length, get_or}
use Rattle.code.specs.Block.{header}
use Rattle.code.proofs.Blocks.{byte_later}
use Rattle.code_encode.specs.Patch.{in_block}
use Rattle.code_encode.proofs.Draws.{drawing_next, place_more}
use Rattle.code_encode.proofs.gather_inside.Goals as goal

pub loop-i-preserved : goal.loop-i-preserved
loop-i-preserved c =
    let a = c.args in
    let l = c.loop-i in
    let h : 4 ≤ l.i = omega (arith, c.requires.2 (omega arith)) in
    let g : 4 ≤ l.at = omega (arith, N.mul-le-mul_left l.i c.requires.0, N.mul-one l.i, l.invariant.2) in (
      omega arith,
      omega arith,
      ap (λ (p : ℕ). p + a.k) l.invariant.2 ∙ place_more a.from l.i a.k,
      drawing_next a.a (in_block a.message.now a.k a.from) a.column.now l.i l.column _ l.invariant.3 l.invariant.0 (omega (arith, l.invariant.3.size, c.requires.5)) (byte_later (length a.message.now) a.message.now l.at g ∙ ap (λ (p : ℕ). get_or (header (length a.message.now) ++ a.message.now) p 0) l.invariant.2),
    )
