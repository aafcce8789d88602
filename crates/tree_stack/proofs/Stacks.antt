-- Leaves that come one after the other: what waits for the next, and the root after the last.
-- Assumes nothing.
use Prim.Native.Nat.{ℕ, zero, suc, ◌+◌, ◌-◌, ◌*◌, ◌/◌, ◌^◌, ◌≤◌, ◌<◌}
use mathlib.Core.Path.{◌≡◌, refl, sym, ap, ap₂, ◌∙◌, subst}
use mathlib.Core.Bool.{Bool, true, false, not, ◌&&◌, ◌||◌}
use mathlib.Core.Logic.{inl, inr, ⊎_elim}
use mathlib.Core.List.{List, ◌∷◌, ◌++◌}
use native.Mathlib.Omega.{arith}
use native.Mathlib.Nat as N
use borrow.Author.Tests.{lt-ltb, le-ltb, ltb-true, ltb-false, eq-eqb, ne_eqb, eqb-true, eqb-false, not-true, leb-true}
use lib.Count.{ones, ones_in}
use lib.Dec.{ltb, leb, eqb}
use lib.ListN.{length, take, drop, length-take, length-drop}
use lib.Seq.{take-add, drop-drop}
use Rattle.octets.specs.Bytes.{pick, part, put}
use Rattle.octets.specs.Sets.{every}
use Rattle.octets.proofs.Laws.{length_put, length_part}
use Rattle.octets.proofs.Picks.{and_l, and_r}
use Rattle.octets.proofs.Frame.{part_out}
use Rattle.octets.proofs.Puts.{part_put}
use Rattle.octets.proofs.SetLaws.{every_at}
use Rattle.octets.proofs.Walk.{lt_or_le}
use Rattle.sha256.specs.Tables.{H0}
use Rattle.sha256.specs.Sha256.{sums, compress, pad, digest, sha256}
use Rattle.sha256.specs.Chain.{chain_from}
use Rattle.sha256.proofs.Padding.{length_pad}
use Rattle.sha256.proofs.Blocks.{all_blocks}
use Rattle.sha256.proofs.Digest.{sha256_length}
use Rattle.tree.specs.Tree.{Tree, root, depth, climb, leaf_hash, node_hash, root_of}
use Rattle.tree.specs.Check.{node_of}
use Rattle.tree.proofs.Lifts.{rise_left, rise_right}
use Rattle.tree.specs.Levels.{span, start, middle, around}
use Rattle.tree.proofs.Spans.{start_left, start_right, around_none, around_right, around_alone, around_all, positive, doubles, middle_is}
use Rattle.tree_stack.specs.Stack.{top, Waiting, Raised}

length_node : (l r : List ℕ) → length (node_hash sha256 l r) ≡ 32
unfolding node_hash
length_node l r = sha256_length _

length_leaf : (f : List ℕ) → length (leaf_hash sha256 f) ≡ 32
unfolding leaf_hash
length_leaf f = sha256_length _

-- ---- what is hashed

-- the chaining words are eight
pub eight_words : (first h p : List ℕ) (n : ℕ) → first ≡ H0 → h ≡ chain_from first n p → length h ≡ 8
unfolding chain_from compress sums H0
eight_words first h p zero f c = ap length (c ∙ f)
eight_words first h p (suc n) f c = ap length c

-- the chaining words of all blocks, put in as bytes
hash_put : (m first h w new : List ℕ) (at n : ℕ) → n ≡ length (pad m) → first ≡ H0 → h ≡ chain_from first (n / 64) (pad m) → new ≡ put at (digest h) w
    → new ≡ put at (sha256 m) w
hash_put m first h w new at n e f c d = d ∙ ap (λ (x : List ℕ). put at x w) (all_blocks m first h n e f c)

-- the string of a byte x and k bytes from a on is hashed in full
pub padded : (x k a n : ℕ) (s : List ℕ) → k ≡ n → a + n ≤ length s → length (pad (x ∷ take k (drop a s))) ≡ (n + 73) / 64 * 64
padded x k a n s e h =
    let l : length (take k (drop a s)) ≡ n = simp (length-take, length-drop) (omega arith) in
    omega (arith, length_pad (x ∷ take k (drop a s)))

side_by_side : (k a : ℕ) (w : List ℕ) → k ≡ 64 → take k (drop a w) ≡ part a 32 w ++ part (a + 32) 32 w
unfolding part
side_by_side k a w e =
    ap (λ (k : ℕ). take k (drop a w)) e ∙ take-add 32 32 (drop a w) ∙ ap (λ (l : List ℕ). take 32 (drop a w) ++ take 32 l) (drop-drop 32 a w)

pub node_put : (k a : ℕ) (w first h new : List ℕ) → k ≡ 64 → a + 64 ≤ length w → first ≡ H0 → h ≡ chain_from first 2 (pad (1 ∷ take k (drop a w)))
    → new ≡ put a (digest h) w → new ≡ put a (node_hash sha256 (part a 32 w) (part (a + 32) 32 w)) w
unfolding node_hash
node_put k a w first h new e fits f c d =
    hash_put (1 ∷ take k (drop a w)) first h w new a 128 (sym (padded 1 k a 64 w e fits)) f c d
    ∙ ap (λ (l : List ℕ). put a (sha256 (1 ∷ l)) w) (side_by_side k a w e)

-- the string of a byte and a leaf is hashed in full
pub padded_leaf : (x : ℕ) (f : List ℕ) → length (pad (x ∷ f)) ≡ (length f + 73) / 64 * 64
padded_leaf x f = omega (arith, length_pad (x ∷ f))

pub leaf_put : (at : ℕ) (f w first h new : List ℕ) → first ≡ H0 → h ≡ chain_from first ((length f + 73) / 64 * 64 / 64) (pad (0 ∷ f)) → new ≡ put at (digest h) w
    → new ≡ put at (leaf_hash sha256 f) w
unfolding leaf_hash
leaf_put at f w first h new e c d = hash_put (0 ∷ f) first h w new at ((length f + 73) / 64 * 64) (sym (padded_leaf 0 f)) e c d

-- ---- what waits

middle_high : (d i : ℕ) → 0 < middle d i
unfolding middle
middle_high d i = omega (arith, positive d)

-- nothing waits for the first leaf
waiting_first : (n : ℕ) (fs : ℕ → List ℕ) (w : List ℕ) → Waiting n fs 0 w
waiting_first n fs w = record { left = λ d lt h. absurd (omega (arith, middle_high d 0)) }

-- the first i of n leaves are taken up: what waits for the next, or the root
pub record Risen (n : ℕ) (fs : ℕ → List ℕ) (i : ℕ) (w : List ℕ) : Type 0 where
  pub waits : i < n → Waiting n fs i w
  pub done : i ≡ n → part 0 32 w ≡ root_of n fs

pub risen_first : (n : ℕ) (fs : ℕ → List ℕ) (w : List ℕ) → 0 < n → Risen n fs 0 w
risen_first n fs w h = record { waits = λ g. waiting_first n fs w; done = λ e. absurd (omega arith) }

pub risen_next : (n : ℕ) (fs : ℕ → List ℕ) (i : ℕ) (w : List ℕ) → Raised n fs i w → Risen n fs (i + 1) w
risen_next n fs i w r = record { waits = r.waits; done = r.last }

-- ---- where hashes stand: one computed test over i and the levels d

-- a level up the hash stands 32 bytes lower where leaf i is on the right
placed : ℕ → ℕ → Bool
placed i d = leb (top (d + 1) i) 160 && eqb (top d i) (top (d + 1) i + pick (ltb i (middle d i)) 0 32)

tested_places : every (λ i. every (λ d. placed i d) 0 6) 0 64 ≡ true
unfolding every placed pick middle start top ones ones_in
tested_places = refl

module _ (i d : ℕ) (hi : i < 64) where
  placed_at : d < 6 → placed i d ≡ true
  placed_at hd =
      every_at (λ d. placed i d) 0 6 (every_at (λ i. every (λ d. placed i d) 0 6) 0 64 tested_places i (omega arith) (omega arith)) d (omega arith) (omega arith)

  -- there is room for two hashes more
  pub top_low : d < 6 → top (d + 1) i ≤ 160
  unfolding placed
  top_low hd = leb-true (top (d + 1) i) 160 (and_l (leb (top (d + 1) i) 160) (eqb (top d i) (top (d + 1) i + pick (ltb i (middle d i)) 0 32)) (placed_at hd))

  up : d < 6 → top d i ≡ top (d + 1) i + pick (ltb i (middle d i)) 0 32
  unfolding placed
  up hd = eqb-true (top d i) (top (d + 1) i + pick (ltb i (middle d i)) 0 32) (and_r (leb (top (d + 1) i) 160) _ (placed_at hd))

  pub top_left : d < 6 → i < middle d i → top d i ≡ top (d + 1) i
  unfolding pick
  top_left hd l = rw (lt-ltb i (middle d i) l) at (up hd) ∙ N.add-zero (top (d + 1) i)

  pub top_right : d < 6 → middle d i ≤ i → top d i ≡ top (d + 1) i + 32
  unfolding pick
  top_right hd r = rw (le-ltb i (middle d i) r) at (up hd)

pub top_most : (i d : ℕ) → i < 64 → d < 6 → top d i ≤ 192
top_most i d hi hd =
    ⊎_elim (λ l. omega (arith, top_left i d hi hd l, top_low i d hi hd)) (λ r. omega (arith, top_right i d hi hd r, top_low i d hi hd)) (lt_or_le i (middle d i))

-- above all levels nothing waits
pub top_end : (i : ℕ) → i < 64 → top 6 i ≡ 0
unfolding top ones
top_end i h = let z : i / 2 ^ 6 ≡ 0 = omega arith in ap (λ (j : ℕ). 32 * ones j) z

-- what waits at a higher level stands lower
falls : (i d k : ℕ) → i < 64 → d + k < 7 → top (d + k) i ≤ top d i
falls i d zero hi h = let e : d + 0 ≡ d = omega arith in N.le_of_eq (ap (λ (x : ℕ). top x i) e)
falls i d (suc k) hi h =
    let e : d + suc k ≡ d + k + 1 = omega arith in
    let s : top (d + k + 1) i ≤ top (d + k) i =
    ⊎_elim (λ l. N.le_of_eq (sym (top_left i (d + k) hi (omega arith) l))) (λ r. omega (arith, top_right i (d + k) hi (omega arith) r)) (lt_or_le i (middle (d + k) i)) in
    N.le_trans (N.le_of_eq (ap (λ (x : ℕ). top x i) e)) (N.le_trans s (falls i d k hi (omega arith)))

lower : (i d e : ℕ) → i < 64 → d ≤ e → e < 6 → middle e i ≤ i → top (e + 1) i + 32 ≤ top d i
lower i d e hi h g r =
    let q : d + (e - d) ≡ e = omega arith in
    let f : top e i ≤ top d i = rw q at (falls i d (e - d) hi (omega arith)) in
    omega (arith, top_right i e hi g r)

-- ---- the leaf after i, where i is the last of a left half of level d: one computed test over i, d and the other levels e

after : ℕ → ℕ → ℕ → Bool
after i d e =
    pick (eqb (middle d i) (i + 1))
    (pick (ltb e d) (ltb (i + 1) (middle e (i + 1)))
    (eqb (top (e + 1) (i + 1)) (top (e + 1) i) && (eqb (start (e + 1) (i + 1)) (start (e + 1) i) && (eqb e d || not (eqb (middle e i) (i + 1))))))
    true

tested : every (λ i. every (λ d. every (λ e. after i d e) 0 6) 0 6) 0 64 ≡ true
unfolding every after pick middle start top ones ones_in
tested = refl

after_at : (i d e : ℕ) → i < 64 → d < 6 → e < 6 → after i d e ≡ true
after_at i d e hi hd he =
    every_at (λ e. after i d e) 0 6
    (every_at (λ d. every (λ e. after i d e) 0 6) 0 6
    (every_at (λ i. every (λ d. every (λ e. after i d e) 0 6) 0 6) 0 64 tested i (omega arith) (omega arith)) d (omega arith) (omega arith)) e (omega arith) (omega arith)

module _ (i d e : ℕ) (hi : i < 64) (hd : d < 6) (he : e < 6) (last : middle d i ≡ i + 1) where
  after_low : e < d → i + 1 < middle e (i + 1)
  unfolding after pick
  after_low lt = ltb-true (i + 1) (middle e (i + 1)) (rw (eq-eqb (middle d i) (i + 1) last, lt-ltb e d lt) at (after_at i d e hi hd he))

  high : d ≤ e → eqb (top (e + 1) (i + 1)) (top (e + 1) i) && (eqb (start (e + 1) (i + 1)) (start (e + 1) i) && (eqb e d || not (eqb (middle e i) (i + 1)))) ≡ true
  unfolding after pick
  high ge = rw (eq-eqb (middle d i) (i + 1) last, le-ltb e d ge) at (after_at i d e hi hd he)

  after_top : d ≤ e → top (e + 1) (i + 1) ≡ top (e + 1) i
  after_top ge =
      eqb-true (top (e + 1) (i + 1)) (top (e + 1) i)
      (and_l (eqb (top (e + 1) (i + 1)) (top (e + 1) i)) (eqb (start (e + 1) (i + 1)) (start (e + 1) i) && (eqb e d || not (eqb (middle e i) (i + 1)))) (high ge))

  rest : d ≤ e → eqb (start (e + 1) (i + 1)) (start (e + 1) i) && (eqb e d || not (eqb (middle e i) (i + 1))) ≡ true
  rest ge = and_r (eqb (top (e + 1) (i + 1)) (top (e + 1) i)) (eqb (start (e + 1) (i + 1)) (start (e + 1) i) && (eqb e d || not (eqb (middle e i) (i + 1)))) (high ge)

  after_start : d ≤ e → start (e + 1) (i + 1) ≡ start (e + 1) i
  after_start ge =
      eqb-true (start (e + 1) (i + 1)) (start (e + 1) i)
      (and_l (eqb (start (e + 1) (i + 1)) (start (e + 1) i)) (eqb e d || not (eqb (middle e i) (i + 1))) (rest ge))

  after_middle : d < e → middle e i ≡ i + 1 → ⊥
  after_middle lt =
      eqb-false (middle e i) (i + 1)
      (not-true (eqb (middle e i) (i + 1))
      (rw (ne_eqb e d (λ q. omega arith)) at
      (and_r (eqb (start (e + 1) (i + 1)) (start (e + 1) i)) (eqb e d || not (eqb (middle e i) (i + 1))) (rest (omega arith)))))

-- ---- the loop that takes leaf i up

-- as far as level d the hash on top is of the tree around leaf i, of which leaf i is the last leaf, or the last of all; below it nothing is changed
pub record Rising (n i d : ℕ) (w₀ w : List ℕ) : Type 0 where
  pub size : length w ≡ length w₀
  pub kept : (q : ℕ) → q + 32 ≤ top d i → part q 32 w ≡ part q 32 w₀
  pub ends : i + 1 < n → start d i + 2 ^ d ≡ i + 1
  pub hash : (fs : ℕ → List ℕ) → part (top 0 i) 32 w₀ ≡ leaf_hash sha256 (fs i) → Waiting n fs i w₀ → part (top d i) 32 w ≡ root sha256 fs (around n d i)

pub rising_first : (n i : ℕ) (w : List ℕ) → Rising n i 0 w w
unfolding start root
rising_first n i w = record {
  size = refl;
  kept = λ q h. refl;
  ends = λ h. omega (arith, N.mod-one i);
  hash = λ fs h s. h ∙ ap (λ (t : Tree). root sha256 fs t) (sym (around_none n i));
}

root_right : (n d i : ℕ) (fs : ℕ → List ℕ) → middle d i < n → middle d i ≤ i
    → root sha256 fs (around n (d + 1) i) ≡ node_hash sha256 (root sha256 fs (span n d (start (d + 1) i))) (root sha256 fs (around n d i))
unfolding root
root_right n d i fs h ge = ap (λ (t : Tree). root sha256 fs t) (around_right n d i h ge)

-- the node over the two hashes from a on, in their place
abbrev over : ℕ → List ℕ → List ℕ
over a w = node_hash sha256 (part a 32 w) (part (a + 32) 32 w)

module _ (n i d : ℕ) (w₀ w : List ℕ) (lt : i < n) (few : n ≤ 64) (low : d < 6) (room : 224 ≤ length w₀) (now : Rising n i d w₀ w) where
  -- on the right: over what waits
  rising_right : middle d i ≤ i → Rising n i (d + 1) w₀ (put (top (d + 1) i) (over (top (d + 1) i) w) w)
  rising_right ge =
      let a = top (d + 1) i in
      let up : top d i ≡ top (d + 1) i + 32 = top_right i d (omega arith) (omega arith) ge in
      let fits : top (d + 1) i ≤ 160 = top_low i d (omega arith) low in
      let size : length (over (top (d + 1) i) w) ≡ 32 = length_node _ _ in
      record {
        size = length_put a (over a w) w ∙ now.size;
        kept = λ q h. part_out a (over a w) w q 32 (inl h) ∙ now.kept q (omega arith);
        ends = λ h. omega (arith, now.ends h, start_right d i ge, middle_is d i, doubles d);
        hash = λ fs hx s.
            part_put a 32 (over a w) w size (omega (arith, now.size))
            ∙ ap₂ (node_hash sha256) (now.kept a (N.le_of_eq (sym up)) ∙ s.left d low ge) (ap (λ (q : ℕ). part q 32 w) (sym up) ∙ now.hash fs hx s)
            ∙ sym (root_right n d i fs (omega arith) ge);
      }

  -- alone
  rising_alone : i < middle d i → n ≤ middle d i → Rising n i (d + 1) w₀ w
  rising_alone l ge =
      let up : top d i ≡ top (d + 1) i = top_left i d (omega arith) (omega arith) l in
      record {
        size = now.size;
        kept = λ q h. now.kept q (omega arith);
        ends = λ h. absurd (omega (arith, now.ends h, start_left d i l, middle_is d i));
        hash = λ fs hx s. ap (λ (q : ℕ). part q 32 w) (sym up) ∙ now.hash fs hx s ∙ ap (λ (t : Tree). root sha256 fs t) (sym (around_alone n d i lt ge));
      }

  pub rising_more : (r : ℕ) (z : List ℕ) → r ≡ top (d + 1) i → (ltb i (middle d i) && ltb (middle d i) n) ≡ false
      → z ≡ pick (ltb i (middle d i)) w (put r (over r w) w) → Rising n i (d + 1) w₀ z
  unfolding pick
  rising_more r z er f e =
      ⊎_elim
      (λ l. subst (Rising n i (d + 1) w₀) (sym (rw (lt-ltb i (middle d i) l) at e))
      (rising_alone l (ltb-false (middle d i) n (rw (lt-ltb i (middle d i) l) at f))))
      (λ g. subst (Rising n i (d + 1) w₀) (sym (rw (le-ltb i (middle d i) g) at e ∙ ap (λ (r : ℕ). put r (over r w) w) er)) (rising_right g))
      (lt_or_le i (middle d i))

  -- a left half stays, and waits for the next leaf
  module _ (l : i < middle d i) (g : middle d i < n) (fs : ℕ → List ℕ) (hx : part (top 0 i) 32 w₀ ≡ leaf_hash sha256 (fs i)) (s : Waiting n fs i w₀) where
    next : middle d i ≡ i + 1
    next = omega (arith, now.ends (omega arith), start_left d i l, middle_is d i)

    abbrev Slot : ℕ → Type 0
    Slot e = part (top (e + 1) (i + 1)) 32 w ≡ root sha256 fs (span n e (start (e + 1) (i + 1)))

    here : Slot d
    unfolding around
    here =
        ap (λ (q : ℕ). part q 32 w) (after_top i d d (omega arith) low low next (omega arith) ∙ sym (top_left i d (omega arith) (omega arith) l))
        ∙ now.hash fs hx s ∙ ap (λ (a : ℕ). root sha256 fs (span n d a)) (start_left d i l ∙ sym (after_start i d d (omega arith) low low next (omega arith)))

    there : (e : ℕ) → e < 6 → d < e → middle e (i + 1) ≤ i + 1 → Slot e
    there e he lte h =
        let m : middle e i ≤ i = before e he lte h in
        ap (λ (q : ℕ). part q 32 w) (after_top i d e (omega arith) low he next (omega arith))
        ∙ now.kept (top (e + 1) i) (lower i d e (omega arith) (omega arith) he m) ∙ s.left e he m
        ∙ ap (λ (a : ℕ). root sha256 fs (span n e a)) (sym (after_start i d e (omega arith) low he next (omega arith)))
      where
        before : (e : ℕ) → e < 6 → d < e → middle e (i + 1) ≤ i + 1 → middle e i ≤ i
        before e he lte h =
            ⊎_elim (λ q. absurd (after_middle i d e (omega arith) low he next lte q)) (λ q. omega arith)
            (N.eq-or-lt_of_le {n = middle e i} {m = i + 1}
            (omega (arith, middle_is e i, middle_is e (i + 1), after_start i d e (omega arith) low he next (omega arith))))

    slots : (e : ℕ) → e < 6 → middle e (i + 1) ≤ i + 1 → Slot e
    slots e he h =
        ⊎_elim (λ lte. absurd (omega (arith, after_low i d e (omega arith) low he next lte)))
        (λ ge. ⊎_elim (λ q. subst Slot q here) (λ q. there e he q h) (N.eq-or-lt_of_le {n = d} {m = e} ge))
        (lt_or_le e d)

    pub rising_stays : Raised n fs i w
    rising_stays = record { waits = λ h. record { left = slots }; last = λ e. absurd (omega (arith, next)) }

-- after all levels
pub rising_done : (n i : ℕ) (w₀ w : List ℕ) → i < n → n ≤ 64 → Rising n i 6 w₀ w → (fs : ℕ → List ℕ) → part (top 0 i) 32 w₀ ≡ leaf_hash sha256 (fs i)
    → Waiting n fs i w₀ → Raised n fs i w
unfolding root_of
rising_done n i w₀ w lt few now fs hx s = record {
  waits = λ h. absurd (omega (arith, now.ends h));
  last = λ e. ap (λ (q : ℕ). part q 32 w) (sym (top_end i (omega arith))) ∙ now.hash fs hx s ∙ ap (λ (t : Tree). root sha256 fs t) (around_all n i few lt);
}

-- ---- a leaf's hash put on top

-- what waits stays as it was
waiting_put : (n : ℕ) (fs : ℕ → List ℕ) (i : ℕ) (w x : List ℕ) → i < 64 → Waiting n fs i w → Waiting n fs i (put (top 0 i) x w)
waiting_put n fs i w x hi s = record {
  left = λ d lt h. part_out (top 0 i) x w (top (d + 1) i) 32 (inl (lower i 0 d hi (omega arith) lt h)) ∙ s.left d lt h;
}

pub leaf_top : (i at : ℕ) (f w new : List ℕ) → i < 64 → 224 ≤ length w → at ≡ top 0 i → new ≡ put at (leaf_hash sha256 f) w → part (top 0 i) 32 new ≡ leaf_hash sha256 f
leaf_top i at f w new hi room e d =
    ap (part (top 0 i) 32) (d ∙ ap (λ (a : ℕ). put a (leaf_hash sha256 f) w) e)
    ∙ part_put (top 0 i) 32 (leaf_hash sha256 f) w (length_leaf f) (omega (arith, top_most i 0 hi (omega arith)))

-- leaf i's hash is on top, and what waits stays
pub leaf_on : (n : ℕ) (fs : ℕ → List ℕ) (i at : ℕ) (w new : List ℕ) → i < 64 → 224 ≤ length w → at ≡ top 0 i → new ≡ put at (leaf_hash sha256 (fs i)) w
    → Waiting n fs i w → (part (top 0 i) 32 new ≡ leaf_hash sha256 (fs i)) × Waiting n fs i new
leaf_on n fs i at w new hi room e d s = (
  leaf_top i at (fs i) w new hi room e d,
  subst (Waiting n fs i) (sym (d ∙ ap (λ (a : ℕ). put a (leaf_hash sha256 (fs i)) w) e)) (waiting_put n fs i w (leaf_hash sha256 (fs i)) hi s),
)

-- ---- a leaf taken up beside the nodes of its path

-- 32 bytes v put in beside the hash from a on, and the two joined
pub joined_right : (a : ℕ) (v w mid new : List ℕ) → length v ≡ 32 → a + 64 ≤ length w → mid ≡ put (a + 32) v w → new ≡ put a (over a mid) mid
    → part a 32 new ≡ node_hash sha256 (part a 32 w) v
joined_right a v w mid new l fits em en =
    ap (part a 32) en ∙ part_put a 32 (over a mid) mid (length_node _ _) (omega (arith, ap length em, length_put (a + 32) v w))
    ∙ ap₂ (node_hash sha256) (ap (part a 32) em ∙ part_out (a + 32) v w a 32 (inl (omega arith))) (ap (part (a + 32) 32) em ∙ part_put (a + 32) 32 v w l (omega arith))

pub joined_left : (a : ℕ) (v w mid new : List ℕ) → length v ≡ 32 → a + 64 ≤ length w → mid ≡ put a v w → new ≡ put a (over a mid) mid
    → part a 32 new ≡ node_hash sha256 v (part (a + 32) 32 w)
joined_left a v w mid new l fits em en =
    ap (part a 32) en ∙ part_put a 32 (over a mid) mid (length_node _ _) (omega (arith, ap length em, length_put a v w))
    ∙ ap₂ (node_hash sha256) (ap (part a 32) em ∙ part_put a 32 v w l (omega arith)) (ap (part (a + 32) 32) em ∙ part_out a v w (a + 32) 32 (inr (omega arith)))

module _ (n d i j : ℕ) (path w : List ℕ) (r at : ℕ) (new f : List ℕ) (e : at ≡ top d i) (few : n ≤ 64) (lt : i < n) (low : d < 6) (room : 224 ≤ length w)
    (hx : part at 32 w ≡ climb sha256 (node_of path) (around n d i) i f) (hj : j ≡ depth (around n d i) i) (h : middle d i < n) where
  inside : at ≤ 192
  inside = omega (arith, top_most i d (omega arith) low)

  size : length (part at 32 w) ≡ 32
  size = length_part at 32 w (omega (arith, inside))

  pub beside_left : i < middle d i → part at 32 new ≡ node_hash sha256 (part at 32 w) (part (32 * j) 32 path)
      → part at 32 new ≡ climb sha256 (node_of path) (around n (d + 1) i) i f
  beside_left l q =
      rise_left n d i j path (part at 32 w) (part at 32 new) f hx hj h l q

  pub beside_right : middle d i ≤ i → part r 32 new ≡ node_hash sha256 (part (32 * j) 32 path) (part at 32 w)
      → part r 32 new ≡ climb sha256 (node_of path) (around n (d + 1) i) i f
  beside_right g q =
      rise_right n d i j path (part at 32 w) (part r 32 new) f hx hj h g q
