-- All paths, a level after the other: what stands in them, and how they grow.
-- Assumes nothing.
use Prim.Native.Nat.{ℕ, zero, suc, ◌+◌, ◌-◌, ◌*◌, ◌^◌, ◌≤◌, ◌<◌}
use mathlib.Core.Path.{◌≡◌, sym, ap, ap₂, ◌∙◌}
use mathlib.Core.Logic.{◌⊎◌, inl, inr, ⊎_elim}
use mathlib.Core.List.{List, [], ◌∷◌, ◌++◌}
use native.Mathlib.Omega.{arith}
use borrow.Author.Tests.{lt-ltb, le-ltb}
use lib.Dec.{ltb}
use lib.ListN.{length}
use Rattle.octets.specs.Bytes.{pick, part, put, place_each}
use Rattle.octets.proofs.Walk.{lt_or_le}
use Rattle.octets.proofs.Places.{length_places}
use Rattle.sha256.specs.Sha256.{sha256}
use Rattle.sha256.proofs.Digest.{sha256_length}
use Rattle.tree.specs.Tree.{Tree, depth, root, path, flat, node_hash, path_of}
use Rattle.tree.specs.Levels.{span, start, middle, around, path_to, paths_to}
use Rattle.tree.specs.Area.{Rooms}
use Rattle.octets.proofs.Parts.{part_front, part_back}
use Rattle.octets.proofs.Places.{places_alike, places_none, place_more, place_part}
use Rattle.tree.proofs.Spans.{span_fork, path_left, path_right, path_alone, around_none, around_all, middle_is, start_run, doubles, positive, depth_most, depth_top, depth_more, depth_grows}
use Rattle.tree.proofs.Whole.{root_size}
use Rattle.tree.proofs.Flat.{flat_snoc, flat_length}

module _ (n : ℕ) (fs : ℕ → List ℕ) where
  -- the hash beside leaf i at level d
  unfoldable pub besides : ℕ → ℕ → List ℕ
  besides d i = pick (ltb i (middle d i)) (root sha256 fs (span n d (middle d i))) (root sha256 fs (span n d (start (d + 1) i)))

  pub besides_left : (d i : ℕ) → i < middle d i → besides d i ≡ root sha256 fs (span n d (middle d i))
  unfolding besides pick
  besides_left d i lt = rw (lt-ltb i (middle d i) lt)

  pub besides_right : (d i : ℕ) → middle d i ≤ i → besides d i ≡ root sha256 fs (span n d (start (d + 1) i))
  unfolding besides pick
  besides_right d i ge = rw (le-ltb i (middle d i) ge)

  pub besides_size : (d i : ℕ) → length (besides d i) ≡ 32
  besides_size d i =
      ⊎_elim (λ lt. rw (besides_left d i lt) (root_size sha256 sha256_length fs (span n d (middle d i))))
      (λ ge. rw (besides_right d i ge) (root_size sha256 sha256_length fs (span n d (start (d + 1) i))))
      (lt_or_le i (middle d i))

  -- ---- one path

  path_more : (d i : ℕ) → middle d i < n → path sha256 fs (around n (d + 1) i) i ≡ path sha256 fs (around n d i) i ++ (besides d i ∷ [])
  path_more d i h =
      ⊎_elim (λ lt. rw (besides_left d i lt) (path_left n d i sha256 fs h lt))
      (λ ge. rw (besides_right d i ge) (path_right n d i sha256 fs h ge))
      (lt_or_le i (middle d i))

  pub path_to_more : (d i : ℕ) → middle d i < n → path_to n fs (d + 1) i ≡ path_to n fs d i ++ besides d i
  unfolding path_to
  path_to_more d i h = ap flat (path_more d i h) ∙ flat_snoc (path sha256 fs (around n d i) i) (besides d i)

  pub path_to_alone : (d i : ℕ) → i < n → n ≤ middle d i → path_to n fs (d + 1) i ≡ path_to n fs d i
  unfolding path_to
  path_to_alone d i lt h = ap flat (path_alone n d i sha256 fs lt h)

  pub path_to_none : (i : ℕ) → path_to n fs 0 i ≡ []
  unfolding path_to path flat pick
  path_to_none i = ap (λ (t : Tree). flat (path sha256 fs t i)) (around_none n i)

  pub path_to_all : (i : ℕ) → n ≤ 64 → i < n → path_to n fs 6 i ≡ flat (path_of n fs i)
  unfolding path_to path_of
  path_to_all i h lt = ap (λ (t : Tree). flat (path sha256 fs t i)) (around_all n i h lt)

  pub path_to_length : (d i : ℕ) → length (path_to n fs d i) ≡ 32 * depth (around n d i) i
  unfolding path_to
  path_to_length d i = flat_length sha256 sha256_length fs (around n d i) i

  -- what a path has it keeps
  path_to_keeps : (e k i a m : ℕ) → i < n → a + m ≤ length (path_to n fs e i) → part a m (path_to n fs (e + k) i) ≡ part a m (path_to n fs e i)
  path_to_keeps e zero i a m lt h = let q : e + 0 ≡ e = omega arith in rw q
  path_to_keeps e (suc k) i a m lt h =
      let q : e + suc k ≡ e + k + 1 = omega arith in
      let room : a + m ≤ length (path_to n fs (e + k) i) =
      omega (arith, path_to_length e i, path_to_length (e + k) i, depth_grows n i lt e k) in
      rw q
      (⊎_elim
      (λ g. rw (path_to_more (e + k) i g) (part_front a m (path_to n fs (e + k) i) (besides (e + k) i) room ∙ path_to_keeps e k i a m lt h))
      (λ g. rw (path_to_alone (e + k) i lt g) (path_to_keeps e k i a m lt h))
      (lt_or_le (middle (e + k) i) n))

  -- ---- all paths

  -- leaf i's path, in the paths as far as level d, and before c a level more
  abbrev held : ℕ → ℕ → ℕ → List ℕ
  held d c i = pick (ltb i c) (path_to n fs (d + 1) i) (path_to n fs d i)

  held_past : (d c i : ℕ) → i < c → held d c i ≡ path_to n fs (d + 1) i
  unfolding pick
  held_past d c i h = rw (lt-ltb i c h)

  held_yet : (d c i : ℕ) → c ≤ i → held d c i ≡ path_to n fs d i
  unfolding pick
  held_yet d c i h = rw (le-ltb i c h)

  pub paths_start : (s : List ℕ) → paths_to n fs 0 0 s ≡ s
  unfolding paths_to
  paths_start s = places_alike 192 s n (held 0 0) (λ i. []) (λ i lt. held_yet 0 0 i (omega arith) ∙ path_to_none i) ∙ places_none 192 s n

  pub paths_end : (s : List ℕ) → n ≤ 64 → paths_to n fs 6 0 s ≡ place_each n 192 (λ i. flat (path_of n fs i)) s
  unfolding paths_to
  paths_end s h =
      places_alike 192 s n (held 6 0) (λ i. flat (path_of n fs i)) (λ i lt. held_yet 6 0 i (omega arith) ∙ path_to_all i h lt)

  -- a level is done where every leaf is passed, and where the leaves left are alone at it
  pub paths_past : (d c c' : ℕ) (s : List ℕ) → n ≤ c → n ≤ c' → paths_to n fs d c s ≡ paths_to n fs d c' s
  unfolding paths_to
  paths_past d c c' s h h' =
      places_alike 192 s n (held d c) (held d c') (λ i lt. held_past d c i (omega arith) ∙ sym (held_past d c' i (omega arith)))

  pub paths_done : (d c : ℕ) (s : List ℕ) → n ≤ c → paths_to n fs d c s ≡ paths_to n fs (d + 1) 0 s
  unfolding paths_to
  paths_done d c s h =
      places_alike 192 s n (held d c) (held (d + 1) 0) (λ i lt. held_past d c i (omega arith) ∙ sym (held_yet (d + 1) 0 i (omega arith)))

  pub paths_level : (d a : ℕ) (s : List ℕ) → start (d + 1) a ≡ a → n ≤ a + 2 ^ d → paths_to n fs d a s ≡ paths_to n fs (d + 1) 0 s
  unfolding paths_to
  paths_level d a s first h =
      places_alike 192 s n (held d a) (held (d + 1) 0)
      (λ i lt. ⊎_elim (λ l. held_past d a i l) (λ g. held_yet d a i g ∙ sym (path_to_alone d i lt (alone i lt g))) (lt_or_le i a)
      ∙ sym (held_yet (d + 1) 0 i (omega arith)))
    where
      alone : (i : ℕ) → i < n → a ≤ i → n ≤ middle d i
      alone i lt g = omega (arith, middle_is d i, start_run (d + 1) a first i g (omega (arith, doubles d, positive d)))

  pub paths_length : (d c : ℕ) (s : List ℕ) → length (paths_to n fs d c s) ≡ length s
  unfolding paths_to
  paths_length d c s = length_places 192 (held d c) s n

  -- the path of leaf i a level further
  pub paths_more : (d i at : ℕ) (h s : List ℕ) → d < 6 → i < n → middle d i < n → at ≡ i * 192 + 32 * depth (around n d i) i → h ≡ besides d i
      → put at h (paths_to n fs d i s) ≡ paths_to n fs d (i + 1) s
  unfolding paths_to
  paths_more d i at h s low lt g e eh =
      let size : length (held d i i) ≡ 32 * depth (around n d i) i = ap length (held_yet d i i (omega arith)) ∙ path_to_length d i in
      let p : at ≡ i * 192 + length (held d i i) = omega arith in
      rw p
      (place_more 192 s (held d i) (held d (i + 1)) i h
      (held_past d (i + 1) i (omega arith) ∙ path_to_more d i g ∙ ap₂ (λ (u v : List ℕ). u ++ v) (sym (held_yet d i i (omega arith))) (sym eh))
      (λ j q. others j q (lt_or_le j i)) (omega (arith, ap length eh, besides_size d i, depth_most n d i)) n lt)
    where
      others : (j : ℕ) → (j ≡ i → ⊥) → (j < i) ⊎ (i ≤ j) → held d (i + 1) j ≡ held d i j
      others j q (inl l) = held_past d (i + 1) j (omega arith) ∙ sym (held_past d i j l)
      others j q (inr l) = held_yet d (i + 1) j (omega (arith, q)) ∙ sym (held_yet d i j l)

  -- ---- a node that stands in the paths

  module _ (few : n ≤ 64) (d : ℕ) (top : d ≤ 6) where
    held_fits : (c i : ℕ) → length (held d c i) ≤ 192
    held_fits c i = ⊎_elim (λ l. rw (held_past d c i l) (more (lt_or_le d 6))) (λ g. rw (held_yet d c i g) (omega (arith, path_to_length d i, depth_most n d i))) (lt_or_le i c)
      where
        more : (d < 6) ⊎ (6 ≤ d) → length (path_to n fs (d + 1) i) ≤ 192
        more (inl l) = omega (arith, path_to_length (d + 1) i, depth_most n (d + 1) i)
        more (inr g) = let q : d + 1 ≡ 7 = omega arith in rw q (omega (arith, path_to_length 7 i, depth_top n i few))

    module _ (e i : ℕ) (lt : i < n) (g : middle e i < n) where
      -- leaf i's path as far as a level above e
      node_in : (k : ℕ) → part (32 * depth (around n e i) i) 32 (path_to n fs (e + 1 + k) i) ≡ besides e i
      node_in k =
          let size : length (path_to n fs (e + 1) i) ≡ 32 * depth (around n e i) i + 32 = omega (arith, path_to_length (e + 1) i, depth_more n e i g) in
          path_to_keeps (e + 1) k i (32 * depth (around n e i) i) 32 lt (omega arith)
          ∙ ap (part (32 * depth (around n e i) i) 32) (path_to_more e i g)
          ∙ part_back (32 * depth (around n e i) i) 32 (path_to n fs e i) (besides e i) (path_to_length e i) (besides_size e i)

      long : (k : ℕ) → 32 * depth (around n e i) i + 32 ≤ length (path_to n fs (e + 1 + k) i)
      long k = omega (arith, path_to_length (e + 1 + k) i, depth_more n e i g, depth_grows n i lt (e + 1) k)

      -- in the paths as far as level d, and where leaf i is passed as far as level d + 1
      level : (c : ℕ) → (e < d) ⊎ ((e ≤ d) × (i < c)) → (k : ℕ) × (held d c i ≡ path_to n fs (e + 1 + k) i)
      level c (inl below) = by (lt_or_le i c)
        where
          by : (i < c) ⊎ (c ≤ i) → (k : ℕ) × (held d c i ≡ path_to n fs (e + 1 + k) i)
          by (inl l) = (d - e, held_past d c i l ∙ (let q : d + 1 ≡ e + 1 + (d - e) = omega arith in ap (λ (x : ℕ). path_to n fs x i) q))
          by (inr l) = (d - (e + 1), held_yet d c i l ∙ (let q : d ≡ e + 1 + (d - (e + 1)) = omega arith in ap (λ (x : ℕ). path_to n fs x i) q))
      level c (inr (below, l)) = (d - e, held_past d c i l ∙ (let q : d + 1 ≡ e + 1 + (d - e) = omega arith in ap (λ (x : ℕ). path_to n fs x i) q))

      pub paths_node : (c : ℕ) (s : List ℕ) → (e < d) ⊎ ((e ≤ d) × (i < c)) → n * 192 ≤ length s → part (i * 192 + 32 * depth (around n e i) i) 32 (paths_to n fs d c s) ≡ besides e i
      unfolding paths_to
      paths_node c s there room =
          let at = level c there in
          place_part 192 (held d c) s (held_fits c) n i (32 * depth (around n e i) i) 32 lt (rw at.1 (long at.0)) room
          ∙ ap (part (32 * depth (around n e i) i) 32) at.1 ∙ node_in at.0

  -- the hash of a tree from its halves' hashes, each of which stands beside the other's first leaf
  module _ (few : n ≤ 64) (d : ℕ) (top : d ≤ 6) (e a c : ℕ) (below : e < d) (first : start (e + 1) a ≡ a) (h : a + 2 ^ e < n)
      (paths old : List ℕ) (room : n * 192 ≤ length paths) (are : paths ≡ paths_to n fs d c old) where
    far : n * 192 ≤ length old
    far = omega (arith, ap length are, paths_length d c old)

    left_stands : (p : ℕ) → p ≡ (a + 2 ^ e) * 192 + 32 * depth (around n e (a + 2 ^ e)) (a + 2 ^ e) → part p 32 paths ≡ root sha256 fs (span n e a)
    left_stands p hp =
        let m = a + 2 ^ e in
        let s : start (e + 1) m ≡ a = start_run (e + 1) a first m (omega arith) (omega (arith, doubles e, positive e)) in
        let k : middle e m ≡ m = middle_is e m ∙ ap (λ (x : ℕ). x + 2 ^ e) s in
        ap₂ (λ (x : ℕ) (l : List ℕ). part x 32 l) hp are ∙ paths_node few d top e m h (omega arith) c old (inl below) far
        ∙ besides_right e m (omega arith) ∙ ap (λ (x : ℕ). root sha256 fs (span n e x)) s

    right_stands : (q : ℕ) → q ≡ a * 192 + 32 * depth (around n e a) a → part q 32 paths ≡ root sha256 fs (span n e (a + 2 ^ e))
    right_stands q hq =
        let k : middle e a ≡ a + 2 ^ e = middle_is e a ∙ ap (λ (x : ℕ). x + 2 ^ e) first in
        ap₂ (λ (x : ℕ) (l : List ℕ). part x 32 l) hq are ∙ paths_node few d top e a (omega arith) (omega arith) c old (inl below) far
        ∙ besides_left e a (omega (arith, positive e)) ∙ ap (λ (x : ℕ). root sha256 fs (span n e x)) k

    pub halves_root : (p q : ℕ) (x : List ℕ) → p ≡ (a + 2 ^ e) * 192 + 32 * depth (around n e (a + 2 ^ e)) (a + 2 ^ e) → q ≡ a * 192 + 32 * depth (around n e a) a
        → x ≡ node_hash sha256 (part p 32 paths) (part q 32 paths) → x ≡ root sha256 fs (span n (e + 1) a)
    unfolding root
    halves_root p q x hp hq hx =
        hx ∙ ap₂ (node_hash sha256) (left_stands p hp) (right_stands q hq) ∙ ap (λ (t : Tree). root sha256 fs t) (sym (span_fork n e a h))

-- the rooms stay while the paths are written
pub rooms_kept : (n s len : ℕ) (area p q : List ℕ) → Rooms n s len area p → length q ≡ length p → Rooms n s len area q
rooms_kept n s len area p q r e = record { some = r.some; few = r.few; fits = r.fits; short = r.short; fragments = r.fragments; slots = omega arith }
