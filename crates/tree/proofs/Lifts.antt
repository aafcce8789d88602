-- A climb goes up one level, with the node beside it read from the path's bytes.
-- Assumes nothing.
use Prim.Native.Nat.{ℕ, ◌+◌, ◌-◌, ◌*◌, ◌≤◌, ◌<◌}
use mathlib.Core.Path.{◌≡◌, sym, ap, ap₂, ◌∙◌}
use mathlib.Core.Logic.{⊎_elim}
use mathlib.Core.List.{List, ◌∷◌, ◌++◌}
use native.Mathlib.Omega.{arith}
use Rattle.octets.proofs.Walk.{lt_or_le}
use Rattle.octets.specs.Bytes.{pick, part}
use Rattle.sha256.specs.Sha256.{sha256}
use Rattle.tree.specs.Tree.{Tree, tree_of, depth, climb, leaf_hash, node_hash}
use Rattle.tree.specs.Check.{node_of}
use Rattle.tree.specs.Levels.{middle, around}
use Rattle.tree.proofs.Spans.{climb_left, climb_right, around_none, depth_more, depth_grows, depth_all}

module _ (n d i j : ℕ) (p x r f : List ℕ) (hx : x ≡ climb sha256 (node_of p) (around n d i) i f) (hj : j ≡ depth (around n d i) i) (h : middle d i < n) where
  pub rise_left : i < middle d i → r ≡ node_hash sha256 x (part (32 * j) 32 p) → r ≡ climb sha256 (node_of p) (around n (d + 1) i) i f
  unfolding node_of
  rise_left lt e = e ∙ ap₂ (node_hash sha256) hx (ap (node_of p) hj) ∙ sym (climb_left n d i sha256 (node_of p) f h lt)

  pub rise_right : middle d i ≤ i → r ≡ node_hash sha256 (part (32 * j) 32 p) x → r ≡ climb sha256 (node_of p) (around n (d + 1) i) i f
  unfolding node_of
  rise_right ge e = e ∙ ap₂ (node_hash sha256) (ap (node_of p) hj) hx ∙ sym (climb_right n d i sha256 (node_of p) f h ge)

-- the string of the pair, by the side that leaf i is on
pub rise_pair : (n d i j at : ℕ) (p x pair r f : List ℕ) → j ≡ depth (around n d i) i → middle d i < n
    → (i < middle d i → at ≡ 0) → (middle d i ≤ i → at ≡ 32) → (at ≡ 0 → pair ≡ x ++ part (32 * j) 32 p) → (at ≡ 32 → pair ≡ part (32 * j) 32 p ++ x)
    → r ≡ sha256 (1 ∷ pair) → x ≡ climb sha256 (node_of p) (around n d i) i f → r ≡ climb sha256 (node_of p) (around n (d + 1) i) i f
unfolding node_hash
rise_pair n d i j at p x pair r f hj h left right el er hr hx =
    ⊎_elim
    (λ lt. rise_left n d i j p x r f hx hj h lt (hr ∙ ap (λ (l : List ℕ). sha256 (1 ∷ l)) (el (left lt))))
    (λ ge. rise_right n d i j p x r f hx hj h ge (hr ∙ ap (λ (l : List ℕ). sha256 (1 ∷ l)) (er (right ge))))
    (lt_or_le i (middle d i))

-- the path has a node for each level at which leaf i is not alone
pub node_there : (n i d : ℕ) → n ≤ 64 → i < n → d < 6 → middle d i < n → depth (around n d i) i + 1 ≤ depth (tree_of n) i
node_there n i d few lt low h =
    let top : d + 1 + (5 - d) ≡ 6 = omega arith in
    let grown : depth (around n (d + 1) i) i ≤ depth (around n 6 i) i = rw top at (depth_grows n i lt (d + 1) (5 - d)) in
    omega (arith, depth_more n d i h, depth_all n i few lt)

pub climb_none : (n i : ℕ) (H : List ℕ → List ℕ) (ps : ℕ → List ℕ) (f : List ℕ) → climb H ps (around n 0 i) i f ≡ leaf_hash H f
unfolding climb pick
climb_none n i H ps f = ap (λ (t : Tree). climb H ps t i f) (around_none n i)
