-- The leaves of a run have one tree beside them, whose hash is laid into the path of each.
-- Assumes nothing.
use Prim.Native.Nat.{ℕ, ◌+◌, ◌*◌, ◌^◌, ◌≤◌, ◌<◌}
use mathlib.Core.Path.{◌≡◌, sym, ap, ap₂, ◌∙◌}
use mathlib.Core.Logic.{⊎_elim, inr}
use mathlib.Core.List.{List}
use native.Mathlib.Omega.{arith}
use borrow.Author.Tests.{lt-ltb, le-ltb}
use lib.ListN.{length}
use Rattle.octets.specs.Bytes.{pick, part, put}
use Rattle.octets.proofs.Walk.{lt_or_le}
use Rattle.sha256.specs.Sha256.{sha256}
use Rattle.tree.specs.Tree.{depth, root}
use Rattle.tree.specs.Levels.{span, start, middle, around, beside, paths_to}
use Rattle.tree.proofs.Spans.{start_left, start_right, start_again, start_lower, start_next, start_run, middle_is, doubles}
use Rattle.tree.proofs.Paths.{paths_more, paths_node, paths_length}
use Rattle.tree.proofs.Runs.{besides_span}

beside_left : (d i : ℕ) → i < middle d i → beside d i ≡ middle d i
unfolding beside pick
beside_left d i h = rw (lt-ltb i (middle d i) h)

beside_right : (d i : ℕ) → middle d i ≤ i → beside d i ≡ start (d + 1) i
unfolding beside pick
beside_right d i h = rw (le-ltb i (middle d i) h)

-- the tree beside a leaf begins a run
pub beside_first : (d i : ℕ) → start d (beside d i) ≡ beside d i
beside_first d i =
    let a = start (d + 1) i in
    let low : start d a ≡ a = start_lower d 1 a (start_again (d + 1) i) in
    ⊎_elim
    (λ lt. rw (beside_left d i lt, middle_is d i) (start_next d a low))
    (λ ge. rw (beside_right d i ge) low)
    (lt_or_le i (middle d i))

-- a run that is alone at its level is a left half
pub alone_first : (d c : ℕ) → start d c ≡ c → c < middle d c → start (d + 1) c ≡ c
alone_first d c first lt = sym (start_left d c lt) ∙ first

module _ (d c : ℕ) (first : start d c ≡ c) (i : ℕ) (low : c ≤ i) (high : i < c + 2 ^ d) where
  run_start : start (d + 1) i ≡ start (d + 1) c
  run_start =
      let a = start (d + 1) c in
      ⊎_elim
      (λ lt. let q : c ≡ a = sym first ∙ start_left d c lt in start_run (d + 1) a (start_again (d + 1) c) i (omega arith) (omega (arith, doubles d)))
      (λ ge. let q : c ≡ a + 2 ^ d = sym first ∙ start_right d c ge ∙ middle_is d c in start_run (d + 1) a (start_again (d + 1) c) i (omega arith) (omega (arith, doubles d)))
      (lt_or_le c (middle d c))

  pub run_middle : middle d i ≡ middle d c
  run_middle = middle_is d i ∙ ap (λ (x : ℕ). x + 2 ^ d) run_start ∙ sym (middle_is d c)

  run_beside : beside d i ≡ beside d c
  run_beside =
      ⊎_elim
      (λ lt. let q : c ≡ start (d + 1) c = sym first ∙ start_left d c lt in
      beside_left d i (omega (arith, run_middle, middle_is d c)) ∙ run_middle ∙ sym (beside_left d c lt))
      (λ ge. beside_right d i (omega (arith, run_middle)) ∙ run_start ∙ sym (beside_right d c ge))
      (lt_or_le c (middle d c))

  -- one more leaf's path
  pub lay_one : (n at : ℕ) (fs : ℕ → List ℕ) (x paths r old : List ℕ) → d < 6 → i < n → middle d c < n → at ≡ i * 192 + 32 * depth (around n d i) i
      → r ≡ put at x paths → x ≡ root sha256 fs (span n d (beside d c)) → paths ≡ paths_to n fs d i old → r ≡ paths_to n fs d (i + 1) old
  lay_one n at fs x paths r old top lt g e hr hx hp =
      hr ∙ ap (put at x) hp
      ∙ paths_more n fs d i at x old top lt (omega (arith, run_middle)) e (hx ∙ ap (λ (y : ℕ). root sha256 fs (span n d y)) (sym run_beside) ∙ sym (besides_span n fs d i))

  -- the same once more, from where it stands in the first leaf's path
  pub lay_again : (n from at : ℕ) (fs : ℕ → List ℕ) (paths r old : List ℕ) → n ≤ 64 → d < 6 → c < i → i < n → middle d c < n → n * 192 ≤ length paths
      → from ≡ c * 192 + 32 * depth (around n d c) c → at ≡ i * 192 + 32 * depth (around n d i) i
      → r ≡ put at (part from 32 paths) paths → paths ≡ paths_to n fs d i old → r ≡ paths_to n fs d (i + 1) old
  lay_again n from at fs paths r old few top past lt g room hf ha hr hp =
      lay_one n at fs (part from 32 paths) paths r old top lt g ha hr
      (ap₂ (λ (k : ℕ) (l : List ℕ). part k 32 l) hf hp
      ∙ paths_node n fs few d (omega arith) d c (omega arith) g i old (inr (omega arith, past)) (omega (arith, ap length hp, paths_length n fs d i old))
      ∙ besides_span n fs d c) hp
