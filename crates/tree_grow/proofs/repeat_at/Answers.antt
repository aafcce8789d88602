use Prim.Native.Nat.{ℕ, ◌+◌, ◌-◌, ◌≤◌}
use mathlib.Core.Path.{◌≡◌, ap, sym, ◌∙◌}
use mathlib.Core.List.{List, ◌++◌}
use native.Mathlib.Omega.{arith}
use lib.ListN.{length, take, drop}
use lib.Seq.{paste, sets-eq}
use Rattle.octets.specs.Bytes.{part, put}
use Rattle.octets.proofs.Laws.{length_part}
use Rattle.tree_grow.proofs.repeat_at.Goals as goal

pasted : (s : List ℕ) (from to : ℕ) → from + 32 ≤ length s → to + 32 ≤ length s → paste s to (drop from s) 32 ≡ put to (part from 32 s) s
unfolding part put
pasted s from to h g =
    let n = length_part from 32 s h in
    ap (λ (k : ℕ). (take to s ++ take 32 (drop from s)) ++ drop (to + k) s) (sym n) ∙ sym (sets-eq (take 32 (drop from s)) s to (omega arith))

pub returns : goal.returns
returns c =
    let a = c.args in
    let e : a.from + 32 - a.from ≡ 32 = omega arith in
    c.copy_within.ensures.after ∙ ap (paste a.s.now a.to (drop a.from a.s.now)) e ∙ pasted a.s.now a.from a.to (omega arith) (omega arith)
