-- A run of leaves is a tree of its own: its root is that of the run's leaves alone.
-- Assumes nothing.
use Prim.Native.Nat.{ℕ, zero, suc, ◌+◌, ◌-◌, ◌^◌, ◌≤◌, ◌<◌, min}
use mathlib.Core.Path.{◌≡◌, refl, sym, ap, ap₂, ◌∙◌, subst}
use mathlib.Core.Bool.{true, false}
use mathlib.Core.Logic.{◌⊎◌, inl, inr, ⊎_elim}
use mathlib.Core.List.{List}
use native.Mathlib.Numerals.{add-one}
use native.Mathlib.Omega.{arith}
use native.Mathlib.Nat as N
use borrow.Author.Tests.{lt-ltb, le-ltb}
use lib.Dec.{ltb}
use Rattle.octets.specs.Bytes.{pick}
use Rattle.octets.proofs.Walk.{lt_or_le}
use Rattle.sha256.specs.Sha256.{sha256}
use Rattle.tree.specs.Tree.{Tree, root, node_hash, root_of}
use Rattle.tree.specs.Levels.{span, start, middle, beside}
use Rattle.tree.proofs.Spans.{tree_span, span_fork, span_alone, positive, start_low}
use Rattle.tree.proofs.Paths.{besides}

-- the leaves from a on, numbered anew: c of them, which are all that are left, or among which the run of 2 ^ d leaves from e on is
module _ (n a c : ℕ) (fs : ℕ → List ℕ) where
  abbrev Run : ℕ → ℕ → Type 0
  Run d e = (a + c ≡ n) ⊎ ((a + c ≤ n) × (e + 2 ^ d ≤ c))

  abbrev Shifted : ℕ → ℕ → Type 0
  Shifted d e = root sha256 fs (span n d (a + e)) ≡ root sha256 (λ j. fs (a + j)) (span c d e)

  halved : (d e x : ℕ) → x ≤ 2 ^ d → Run (suc d) e → Run d (e + x)
  halved d e x h (inl q) = inl q
  halved d e x h (inr q) = inr (q.0, omega (arith, q.1, N.two-pow-succ d))

  shifted_fork : (d e : ℕ) → Shifted d e → Shifted d (e + 2 ^ d) → e + 2 ^ d < c → a + e + 2 ^ d < n → Shifted (d + 1) e
  unfolding root
  shifted_fork d e l r h g =
      let q : a + e + 2 ^ d ≡ a + (e + 2 ^ d) = omega arith in
      ap (λ (t : Tree). root sha256 fs t) (span_fork n d (a + e) g) ∙ ap₂ (node_hash sha256) l (ap (λ (x : ℕ). root sha256 fs (span n d x)) q ∙ r)
      ∙ ap (λ (t : Tree). root sha256 (λ j. fs (a + j)) t) (sym (span_fork c d e h))

  shifted_alone : (d e : ℕ) → Shifted d e → c ≤ e + 2 ^ d → n ≤ a + e + 2 ^ d → Shifted (d + 1) e
  shifted_alone d e l h g =
      ap (λ (t : Tree). root sha256 fs t) (span_alone n d (a + e) g) ∙ l ∙ ap (λ (t : Tree). root sha256 (λ j. fs (a + j)) t) (sym (span_alone c d e h))

  shifted_more : (d e : ℕ) → Shifted d e → Shifted d (e + 2 ^ d) → Run (suc d) e → (e + 2 ^ d < c) ⊎ (c ≤ e + 2 ^ d) → Shifted (d + 1) e
  shifted_more d e l r (inl q) (inl h) = shifted_fork d e l r h (omega arith)
  shifted_more d e l r (inl q) (inr h) = shifted_alone d e l h (omega arith)
  shifted_more d e l r (inr q) (inl h) = shifted_fork d e l r h (omega (arith, q.0))
  shifted_more d e l r (inr q) (inr h) = absurd (omega (arith, q.1, N.two-pow-succ d, positive d))

  shifted : (d e : ℕ) → Run d e → Shifted d e
  unfolding span root
  shifted zero e o = refl
  shifted (suc d) e o =
      let z : e + 0 ≡ e = omega arith in
      subst (λ (x : ℕ). Shifted x e) (add-one d)
      (shifted_more d e (shifted d e (subst (λ (x : ℕ). Run d x) z (halved d e 0 (omega arith) o))) (shifted d (e + 2 ^ d) (halved d e (2 ^ d) (omega arith) o)) o
      (lt_or_le (e + 2 ^ d) c))

-- a tree that holds all leaves grows no more
span_top : (c d k : ℕ) → c ≤ 2 ^ d → span c (d + k) 0 ≡ span c d 0
span_top c d zero h = let q : d + 0 ≡ d = omega arith in ap (λ (x : ℕ). span c x 0) q
span_top c d (suc k) h =
    let q : d + suc k ≡ d + k + 1 = omega arith in
    ap (λ (x : ℕ). span c x 0) q ∙ span_alone c (d + k) 0 (omega (arith, N.pow-le-pow_right {n = 2} (omega arith) (N.le-add_right d k))) ∙ span_top c d k h

pub run_root : (n d a c : ℕ) (fs : ℕ → List ℕ) → n ≤ 64 → d ≤ 6 → a < n → c ≡ min n (a + 2 ^ d) - a → root_of c (λ j. fs (a + j)) ≡ root sha256 fs (span n d a)
unfolding root_of
run_root n d a c fs few low lt e =
    let p = positive d in
    let top : d + (6 - d) ≡ 6 = omega arith in
    let z : a + 0 ≡ a = omega arith in
    ap (λ (t : Tree). root sha256 (λ j. fs (a + j)) t)
    (tree_span c (omega arith) (omega arith) ∙ ap (λ (x : ℕ). span c x 0) (sym top) ∙ span_top c d (6 - d) (omega arith))
    ∙ sym (shifted n a c fs d 0 (ends (lt_or_le (a + 2 ^ d) n))) ∙ ap (λ (x : ℕ). root sha256 fs (span n d x)) z
  where
    ends : (a + 2 ^ d < n) ⊎ (n ≤ a + 2 ^ d) → (a + c ≡ n) ⊎ ((a + c ≤ n) × (0 + 2 ^ d ≤ c))
    ends (inl h) = inr (omega arith, omega arith)
    ends (inr h) = inl (omega arith)

-- ---- the run beside leaf i

pub beside_low : (n d i : ℕ) → i < n → middle d i < n → beside d i < n
unfolding beside pick
beside_low n d i lt h =
    ⊎_elim (λ l. rw (lt-ltb i (middle d i) l) h) (λ g. rw (le-ltb i (middle d i) g) (omega (arith, start_low (d + 1) i))) (lt_or_le i (middle d i))

module _ (n : ℕ) (fs : ℕ → List ℕ) (d i : ℕ) where
  pub besides_span : besides n fs d i ≡ root sha256 fs (span n d (beside d i))
  unfolding besides beside pick
  besides_span = elim (ltb i (middle d i)) as (λ b. ◌≡◌ {A = List ℕ} (pick b (root sha256 fs (span n d (middle d i))) (root sha256 fs (span n d (start (d + 1) i))))
      (root sha256 fs (span n d (pick b (middle d i) (start (d + 1) i))))) [
        | true ↦ refl
        | false ↦ refl
      ]

  -- the node beside leaf i at level d: the root of the c leaves from a on
  pub beside_root : (a c : ℕ) → n ≤ 64 → d < 6 → i < n → middle d i < n → a ≡ beside d i → c ≡ min n (a + 2 ^ d) - a → root_of c (λ j. fs (a + j)) ≡ besides n fs d i
  beside_root a c few low lt h ea ec =
      run_root n d a c fs few (omega arith) (omega (arith, beside_low n d i lt h)) ec ∙ ap (λ (x : ℕ). root sha256 fs (span n d x)) ea ∙ sym besides_span
