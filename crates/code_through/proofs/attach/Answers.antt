use mathlib.Core.Path.{◌≡◌, sym, ap, ◌∙◌}
use mathlib.Core.Logic.{⊎_elim}
use mathlib.Core.List.{List}
use Prim.Native.Nat.{ℕ, ◌+◌, ◌≤◌}
use native.Mathlib.Omega.{arith}
use lib.ListN.{length, get_or, get_or-eq_default}
use Rattle.field.specs.Field.{add, mul}
use Rattle.field.proofs.Laws.{zero_mul_r, add_zero}
use Rattle.octets.proofs.Walk.{lt_or_le}
use Rattle.code_through.proofs.attach.Goals as goal

-- at the end of the row nothing is added
last : (old : List ℕ) (x k : ℕ) → length old ≤ k + 1 → add (get_or old k 0) (mul x (get_or old (k + 1) 0)) ≡ get_or old k 0
last old x k h = ap (λ (v : ℕ). add (get_or old k 0) (mul x v)) (get_or-eq_default old 0 h) ∙ simp (zero_mul_r, add_zero)

pub returns : goal.returns
returns c =
    let a = c.args in
    let l = c.loop-i in
    let w = l.invariant.2 in
    record {
      kept = λ i h. (w.done i (omega arith)).kept h;
      each = λ i h g. ⊎_elim (λ d. (w.done i d).each h) (λ d. w.rest i d ∙ sym (last a.row.now a.x i (omega arith))) (lt_or_le i l.i);
    }
