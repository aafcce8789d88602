use mathlib.Core.Path.{◌≡◌, sym, ◌∙◌, subst}
use mathlib.Core.List.{[], ◌∷◌, ◌++◌}
use Prim.Native.Nat.{ℕ, suc, ◌-◌}
use native.Mathlib.Omega.{arith}
use lib.ListN.{length, get_or}
use Rattle.code.specs.Code.{value}
use Rattle.code_through.proofs.Newton.{Expanded, expanded_next}
use Rattle.code_through.specs.Fits.{Attached}
use Rattle.code_through.specs.Sums.{differences}
use Rattle.code_through.proofs.Weights.{differences_root, newton_differences, longer, point, master_start, master_top}
use Rattle.code_through.proofs.master.Goals as goal

pub loop-j-init : goal.loop-j-init
loop-j-init c = (omega arith, c.requires.2, master_start c.args.points.now c.args.row.now c.requires.0, λ i. omega (arith, c.type_inv.row i))

pub loop-j-preserved : goal.loop-j-preserved
loop-j-preserved c =
    let a = c.args in
    let l = c.loop-j in
    let d = c.attach in
    let k : length d.new.row ≡ length l.row = d.auto.row in
    let j : l.j ≡ suc (l.j - 1) = omega arith in
    let e = subst (Expanded (a.points.now ++ 0 ∷ []) a.row.now l.row) j l.invariant.2 in (
      omega arith,
      master_top a.points.now a.row.now c.requires.0 (get_or a.points.now (l.j - 1) 0) (l.j - 1) l.row d.new.row (omega arith) l.invariant.2.size d.ensures l.invariant.1,
      expanded_next (a.points.now ++ 0 ∷ []) a.row.now l.row d.new.row (l.j - 1) (longer a.points.now a.row.now c.requires.0) e k
          (omega (arith, l.invariant.2.size, c.requires.0))
          (subst (λ (x : ℕ). Attached x (l.j - 1) l.row d.new.row) (sym (point a.points.now a.row.now c.requires.0 (l.j - 1) (omega arith))) d.ensures),
      λ i. omega (arith, c.type_inv.row i),
    )

pub returns : goal.returns
returns c =
    let a = c.args in
    let l = c.loop-j in
    let z : l.j ≡ 0 = omega arith in
    let e = subst (Expanded (a.points.now ++ 0 ∷ []) a.row.now l.row) z l.invariant.2 in
    let all : (z : ℕ) → value l.row z ≡ differences a.points.now z = λ z. e.same z ∙ newton_differences a.points.now a.row.now z c.requires.0 c.requires.1 c.requires.2 in
    record {
      size = l.invariant.2.size ∙ c.requires.0;
      small = l.invariant.3;
      all = all;
      root = λ i h. all (get_or a.points.now i 0) ∙ differences_root a.points.now i h;
      top = l.invariant.1;
    }
