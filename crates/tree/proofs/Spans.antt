-- The tree by levels is the tree of RFC 6962, and each level's root, path and climb from those of the level below.
-- Assumes nothing.
use Prim.Native.Nat.{ℕ, zero, suc, ◌+◌, ◌-◌, ◌*◌, ◌/◌, ◌%◌, ◌^◌, ◌≤◌, ◌<◌}
use mathlib.Core.Path.{◌≡◌, refl, sym, ap, ◌∙◌, subst}
use mathlib.Core.Bool.{Bool, true, false, ◌&&◌}
use mathlib.Core.Logic.{⊎_elim}
use mathlib.Core.List.{List, [], ◌∷◌, ◌++◌}
use native.Mathlib.Numerals.{add-one}
use native.Mathlib.Omega.{arith}
use native.Mathlib.Nat as N
use borrow.Author.Tests.{lt-ltb, le-ltb, eqb-true}
use lib.Dec.{eqb}
use Rattle.octets.specs.Bytes.{pick}
use Rattle.octets.specs.Sets.{every}
use Rattle.octets.proofs.Picks.{and_l, and_r}
use Rattle.octets.proofs.Walk.{lt_or_le}
use Rattle.tree.specs.Tree.{Tree, tip, fork, doubled, half, tree, tree_of, depth, root, path, climb, node_hash}
use Rattle.tree.specs.Levels.{span, start, middle, around}
use Rattle.octets.proofs.SetLaws.{every_at}

-- ---- the same tree: one computed test over the counts 1 to 64

same : Tree → Tree → Bool
same (tip i) (tip j) = eqb i j
same (tip i) (fork k l r) = false
same (fork k l r) (tip i) = false
same (fork k l r) (fork k' l' r') = eqb k k' && (same l l' && same r r')

same_eq : (t u : Tree) → same t u ≡ true → t ≡ u
unfolding same
same_eq (tip i) (tip j) e = ap tip (eqb-true i j e)
same_eq (tip i) (fork k l r) e = absurd (let z : ◌≡◌ {A = ℕ} 0 1 = cc in omega arith)
same_eq (fork k l r) (tip i) e = absurd (let z : ◌≡◌ {A = ℕ} 0 1 = cc in omega arith)
same_eq (fork k l r) (fork k' l' r') e =
    let a = eqb-true k k' (and_l (eqb k k') (same l l' && same r r') e) in
    let rest = and_r (eqb k k') (same l l' && same r r') e in
    let b = same_eq l l' (and_l (same l l') (same r r') rest) in
    let c = same_eq r r' (and_r (same l l') (same r r') rest) in
    rw (a, b, c)

tested : every (λ n. same (tree_of n) (span n 6 0)) 1 64 ≡ true
unfolding every same tree_of tree half doubled span pick
tested = refl

pub tree_span : (n : ℕ) → 1 ≤ n → n ≤ 64 → tree_of n ≡ span n 6 0
tree_span n low high = same_eq (tree_of n) (span n 6 0) (every_at (λ n. same (tree_of n) (span n 6 0)) 1 64 tested n low (omega arith))

-- ---- the runs of 2 ^ d leaves

-- leaf i of a run of w + w leaves stands in its left or in its right half
module _ (w i : ℕ) (pos : 0 < w) where
  inside : i % w ≡ i % (w + w) % w
  inside =
      let q = i / (w + w) in
      let e : i ≡ (q + q) * w + i % (w + w) = sym (N.div-add-mod' i (w + w)) ∙ ap (λ (x : ℕ). x + i % (w + w)) (N.mul-add q w w ∙ sym (N.add-mul q q w)) in
      ap (λ (x : ℕ). x % w) e ∙ N.mul-add-mod_self_right (q + q) w (i % (w + w))

  left_half : i < i - i % (w + w) + w → i - i % w ≡ i - i % (w + w)
  left_half h = rw (inside ∙ N.mod-eq_of_lt {n = i % (w + w)} {m = w} (omega (arith, N.mod-le i (w + w))))

  right_half : i - i % (w + w) + w ≤ i → i - i % w ≡ i - i % (w + w) + w
  right_half h =
      let ge : w ≤ i % (w + w) = omega (arith, N.mod-le i (w + w)) in
      let lt : i % (w + w) < w + w = N.mod-lt i (omega arith) in
      let e : i % w ≡ i % (w + w) - w = inside ∙ N.mod-eq-sub-mod ge ∙ N.mod-eq_of_lt {n = i % (w + w) - w} {m = w} (omega arith) in
      omega (arith, N.mod-le i (w + w))

pub doubles : (d : ℕ) → 2 ^ (d + 1) ≡ 2 ^ d + 2 ^ d
doubles d = rw add-one (N.two-pow-succ d)

pub positive : (d : ℕ) → 0 < 2 ^ d
positive d = N.one-le-pow d 2 (omega arith)

module _ (d i : ℕ) where
  pub start_left : i < middle d i → start d i ≡ start (d + 1) i
  unfolding start middle
  start_left h = rw (doubles d) (left_half (2 ^ d) i (positive d) (rw (doubles d) at h))

  pub start_right : middle d i ≤ i → start d i ≡ middle d i
  unfolding start middle
  start_right h = rw (doubles d) (right_half (2 ^ d) i (positive d) (rw (doubles d) at h))

pub middle_is : (d i : ℕ) → middle d i ≡ start (d + 1) i + 2 ^ d
unfolding middle
middle_is d i = refl

pub start_low : (d i : ℕ) → start d i ≤ i
unfolding start
start_low d i = omega arith

pub start_again : (d i : ℕ) → start d (start d i) ≡ start d i
unfolding start
start_again d i =
    let w = 2 ^ d in
    let e : i - i % w ≡ i / w * w = omega (arith, N.div-add-mod' i w) in
    rw (e, N.mul-mod_left (i / w) w) (N.sub-zero (i / w * w))

-- each leaf of a run has the run's first leaf, and a run follows on a run
module _ (d a : ℕ) (first : start d a ≡ a) where
  pub start_run : (i : ℕ) → a ≤ i → i < a + 2 ^ d → start d i ≡ a
  unfolding start
  start_run i low high =
      let w = 2 ^ d in
      let z : a % w ≡ 0 = omega (arith, N.mod-le a w) in
      let p : a / w * w ≡ a = omega (arith, N.div-add-mod' a w) in
      let q : i ≡ a / w * w + (i - a) = omega arith in
      let r : i % w ≡ i - a = ap (λ (x : ℕ). x % w) q ∙ N.mul-add-mod_self_right (a / w) w (i - a) ∙ N.mod-eq_of_lt {n = i - a} {m = w} (omega arith) in
      omega arith

  pub start_next : start d (a + 2 ^ d) ≡ a + 2 ^ d
  unfolding start
  start_next = let z : a % 2 ^ d ≡ 0 = omega (arith, N.mod-le a (2 ^ d)) in rw (N.add-mod_right a (2 ^ d), z) (N.sub-zero (a + 2 ^ d))

middle_past : (d a : ℕ) → start (d + 1) a ≡ a → a < middle d a
unfolding middle
middle_past d a e = omega (arith, positive d)

-- a run of 2 ^ (e + k) leaves begins with one of 2 ^ e
pub start_lower : (e k a : ℕ) → start (e + k) a ≡ a → start e a ≡ a
start_lower e zero a h = let q : e + 0 ≡ e = omega arith in rw q at h
start_lower e (suc k) a h =
    let q : e + suc k ≡ e + k + 1 = omega arith in
    let up : start (e + k + 1) a ≡ a = rw q at h in
    start_lower e k a (start_left (e + k) a (middle_past (e + k) a up) ∙ up)

-- ---- one level

module _ (n d a : ℕ) where
  pub span_fork : a + 2 ^ d < n → span n (d + 1) a ≡ fork (a + 2 ^ d) (span n d a) (span n d (a + 2 ^ d))
  unfolding span pick
  span_fork h = rw (add-one, lt-ltb (a + 2 ^ d) n h)

  pub span_alone : n ≤ a + 2 ^ d → span n (d + 1) a ≡ span n d a
  unfolding span pick
  span_alone h = rw (add-one, le-ltb (a + 2 ^ d) n h)

module _ (n d i : ℕ) where
  pub around_left : middle d i < n → i < middle d i → around n (d + 1) i ≡ fork (middle d i) (around n d i) (span n d (middle d i))
  unfolding around middle
  around_left h lt = rw (start_left d i lt) (span_fork n d (start (d + 1) i) h)

  pub around_right : middle d i < n → middle d i ≤ i → around n (d + 1) i ≡ fork (middle d i) (span n d (start (d + 1) i)) (around n d i)
  unfolding around middle
  around_right h ge = rw (start_right d i ge) (span_fork n d (start (d + 1) i) h)

  pub around_alone : i < n → n ≤ middle d i → around n (d + 1) i ≡ around n d i
  unfolding around middle
  around_alone lt h = rw (start_left d i (omega arith)) (span_alone n d (start (d + 1) i) h)

pub around_none : (n i : ℕ) → around n 0 i ≡ tip i
unfolding around span start
around_none n i = let e : i - i % 2 ^ 0 ≡ i = omega (arith, N.mod-one i) in ap tip e

pub around_all : (n i : ℕ) → n ≤ 64 → i < n → around n 6 i ≡ tree_of n
unfolding around start
around_all n i h lt = let e : i - i % 2 ^ 6 ≡ 0 = omega arith in ap (span n 6) e ∙ sym (tree_span n (omega arith) h)

pub depth_all : (n i : ℕ) → n ≤ 64 → i < n → depth (around n 6 i) i ≡ depth (tree_of n) i
depth_all n i h lt = ap (λ (t : Tree). depth t i) (around_all n i h lt)

-- ---- what a fork gives, by the side that leaf i is on

module _ (k : ℕ) (l r : Tree) (i : ℕ) where
  depth_l : i < k → depth (fork k l r) i ≡ depth l i + 1
  unfolding depth pick
  depth_l h = rw (lt-ltb i k h)

  depth_r : k ≤ i → depth (fork k l r) i ≡ depth r i + 1
  unfolding depth pick
  depth_r h = rw (le-ltb i k h)

  module _ (H : List ℕ → List ℕ) (ps : ℕ → List ℕ) (f : List ℕ) where
    climb_l : i < k → climb H ps (fork k l r) i f ≡ node_hash H (climb H ps l i f) (ps (depth l i))
    unfolding climb pick
    climb_l h = rw (lt-ltb i k h)

    climb_r : k ≤ i → climb H ps (fork k l r) i f ≡ node_hash H (ps (depth r i)) (climb H ps r i f)
    unfolding climb pick
    climb_r h = rw (le-ltb i k h)

  module _ (H : List ℕ → List ℕ) (fs : ℕ → List ℕ) where
    path_l : i < k → path H fs (fork k l r) i ≡ path H fs l i ++ (root H fs r ∷ [])
    unfolding path pick
    path_l h = rw (lt-ltb i k h)

    path_r : k ≤ i → path H fs (fork k l r) i ≡ path H fs r i ++ (root H fs l ∷ [])
    unfolding path pick
    path_r h = rw (le-ltb i k h)

-- ---- a level more around leaf i

module _ (n d i : ℕ) where
  pub depth_more : middle d i < n → depth (around n (d + 1) i) i ≡ depth (around n d i) i + 1
  depth_more h =
      ⊎_elim
      (λ lt. ap (λ (t : Tree). depth t i) (around_left n d i h lt) ∙ depth_l (middle d i) (around n d i) (span n d (middle d i)) i lt)
      (λ ge. ap (λ (t : Tree). depth t i) (around_right n d i h ge) ∙ depth_r (middle d i) (span n d (start (d + 1) i)) (around n d i) i ge)
      (lt_or_le i (middle d i))

  pub depth_alone : i < n → n ≤ middle d i → depth (around n (d + 1) i) i ≡ depth (around n d i) i
  depth_alone lt h = ap (λ (t : Tree). depth t i) (around_alone n d i lt h)

  module _ (H : List ℕ → List ℕ) (ps : ℕ → List ℕ) (f : List ℕ) where
    pub climb_left : middle d i < n → i < middle d i
        → climb H ps (around n (d + 1) i) i f ≡ node_hash H (climb H ps (around n d i) i f) (ps (depth (around n d i) i))
    climb_left h lt =
        ap (λ (t : Tree). climb H ps t i f) (around_left n d i h lt) ∙ climb_l (middle d i) (around n d i) (span n d (middle d i)) i H ps f lt

    pub climb_right : middle d i < n → middle d i ≤ i
        → climb H ps (around n (d + 1) i) i f ≡ node_hash H (ps (depth (around n d i) i)) (climb H ps (around n d i) i f)
    climb_right h ge =
        ap (λ (t : Tree). climb H ps t i f) (around_right n d i h ge) ∙ climb_r (middle d i) (span n d (start (d + 1) i)) (around n d i) i H ps f ge

    pub climb_alone : i < n → n ≤ middle d i → climb H ps (around n (d + 1) i) i f ≡ climb H ps (around n d i) i f
    climb_alone lt h = ap (λ (t : Tree). climb H ps t i f) (around_alone n d i lt h)

  module _ (H : List ℕ → List ℕ) (fs : ℕ → List ℕ) where
    pub path_left : middle d i < n → i < middle d i
        → path H fs (around n (d + 1) i) i ≡ path H fs (around n d i) i ++ (root H fs (span n d (middle d i)) ∷ [])
    path_left h lt =
        ap (λ (t : Tree). path H fs t i) (around_left n d i h lt) ∙ path_l (middle d i) (around n d i) (span n d (middle d i)) i H fs lt

    pub path_right : middle d i < n → middle d i ≤ i
        → path H fs (around n (d + 1) i) i ≡ path H fs (around n d i) i ++ (root H fs (span n d (start (d + 1) i)) ∷ [])
    path_right h ge =
        ap (λ (t : Tree). path H fs t i) (around_right n d i h ge) ∙ path_r (middle d i) (span n d (start (d + 1) i)) (around n d i) i H fs ge

    pub path_alone : i < n → n ≤ middle d i → path H fs (around n (d + 1) i) i ≡ path H fs (around n d i) i
    path_alone lt h = ap (λ (t : Tree). path H fs t i) (around_alone n d i lt h)

-- a path gets at most a node a level, and no shorter
depth_span : (n d a i : ℕ) → depth (span n d a) i ≤ d
unfolding span depth pick
depth_span n zero a i = omega arith
depth_span n (suc d) a i =
    subst (λ (e : ℕ). depth (span n e a) i ≤ e) (add-one d)
    (⊎_elim
    (λ h. rw (span_fork n d a h)
    (⊎_elim
    (λ l. rw (depth_l (a + 2 ^ d) (span n d a) (span n d (a + 2 ^ d)) i l) (omega (arith, depth_span n d a i)))
    (λ g. rw (depth_r (a + 2 ^ d) (span n d a) (span n d (a + 2 ^ d)) i g) (omega (arith, depth_span n d (a + 2 ^ d) i)))
    (lt_or_le i (a + 2 ^ d))))
    (λ h. rw (span_alone n d a h) (omega (arith, depth_span n d a i)))
    (lt_or_le (a + 2 ^ d) n))

pub depth_most : (n d i : ℕ) → depth (around n d i) i ≤ d
unfolding around
depth_most n d i = depth_span n d (start d i) i

-- above level 6 nothing is added
pub depth_top : (n i : ℕ) → n ≤ 64 → depth (around n 7 i) i ≤ 6
unfolding around
depth_top n i few = rw (span_alone n 6 (start 7 i) (omega arith)) (depth_span n 6 (start 7 i) i)

pub depth_least : (n i : ℕ) → depth (around n 0 i) i ≡ 0
unfolding depth pick
depth_least n i = ap (λ (t : Tree). depth t i) (around_none n i)

module _ (n i : ℕ) (lt : i < n) where
  depth_next : (d : ℕ) → depth (around n d i) i ≤ depth (around n (d + 1) i) i
  depth_next d =
      ⊎_elim (λ h. omega (arith, depth_more n d i h)) (λ h. omega (arith, depth_alone n d i lt h)) (lt_or_le (middle d i) n)

  pub depth_grows : (d e : ℕ) → depth (around n d i) i ≤ depth (around n (d + e) i) i
  depth_grows d zero = let q : d + 0 ≡ d = omega arith in rw q (omega arith)
  depth_grows d (suc e) = let q : d + suc e ≡ d + e + 1 = omega arith in rw q (omega (arith, depth_grows d e, depth_next (d + e)))
