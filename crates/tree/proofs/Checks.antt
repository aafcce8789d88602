-- What a path check's yes says; each fragment's own path is correct; a correct path binds the fragment.
-- Assumes nothing.
use Prim.Native.Nat.{ℕ, ◌-◌, ◌*◌, ◌≤◌, ◌<◌}
use mathlib.Core.Path.{◌≡◌, sym, ap, ◌∙◌}
use mathlib.Core.Bool.{true, ◌&&◌}
use mathlib.Core.Logic.{◌⊎◌, inl, inr}
use mathlib.Core.List.{List, []}
use native.Mathlib.Omega.{arith}
use borrow.Author.Tests.{leb-true, eqb-true, eq-eqb}
use lib.Dec.{leb, eqb}
use lib.ListN.{length, get_or}
use Rattle.octets.specs.Bytes.{pick, same}
use Rattle.octets.proofs.Laws.{length_part}
use Rattle.octets.proofs.Picks.{and_l, and_r, picks}
use Rattle.sha256.specs.Sha256.{sha256}
use Rattle.sha256.proofs.Digest.{sha256_length}
use Rattle.tree.specs.Tree.{tree_of, depth, root, path, flat, climb, root_of, path_of}
use Rattle.tree.specs.Check.{node_of, path_correct}
use Rattle.tree.specs.Strings.{Collision, check_strings, tree_strings}
use Rattle.octets.proofs.Sames.{same_self, same_equal}
use Rattle.tree.proofs.Spans.{depth_all, depth_most}
use Rattle.tree.proofs.Whole.{leaf_at_lem, root_size, climb_same, complete}
use Rattle.tree.proofs.Bound.{bound}
use Rattle.tree.proofs.Flat.{flat_length, path_node}

-- the parts of a yes
pub record Said (n i : ℕ) (r p f : List ℕ) : Type 0 where
  pub boards : (1 ≤ n) × (n ≤ 64)
  pub board : (1 ≤ i) × (i ≤ n)
  pub sized : length r ≡ 32
  pub short : length f ≤ 65535
  pub nodes : length p ≡ 32 * depth (tree_of n) (i - 1)
  pub gives : climb sha256 (node_of p) (tree_of n) (i - 1) f ≡ r

pub said : (n i : ℕ) (r p f : List ℕ) → path_correct n i r p f ≡ true → Said n i r p f
unfolding path_correct
said n i r p f e =
    let last = same (climb sha256 (node_of p) (tree_of n) (i - 1) f) r in
    let count = eqb (length p) (32 * depth (tree_of n) (i - 1)) in
    let short = leb (length f) 65535 in
    let size = eqb (length r) 32 in
    let e1 = and_r (leb 1 n) (leb n 64 && (leb 1 i && (leb i n && (size && (short && (count && last)))))) e in
    let e2 = and_r (leb n 64) (leb 1 i && (leb i n && (size && (short && (count && last))))) e1 in
    let e3 = and_r (leb 1 i) (leb i n && (size && (short && (count && last)))) e2 in
    let e4 = and_r (leb i n) (size && (short && (count && last))) e3 in
    let e5 = and_r size (short && (count && last)) e4 in
    let e6 = and_r short (count && last) e5 in
    record {
      boards = (
        leb-true 1 n (and_l (leb 1 n) (leb n 64 && (leb 1 i && (leb i n && (size && (short && (count && last)))))) e),
        leb-true n 64 (and_l (leb n 64) (leb 1 i && (leb i n && (size && (short && (count && last))))) e1),
      );
      board = (leb-true 1 i (and_l (leb 1 i) (leb i n && (size && (short && (count && last)))) e2), leb-true i n (and_l (leb i n) (size && (short && (count && last))) e3));
      sized = eqb-true (length r) 32 (and_l size (short && (count && last)) e4);
      short = leb-true (length f) 65535 (and_l short (count && last) e5);
      nodes = eqb-true (length p) (32 * depth (tree_of n) (i - 1)) (and_l count last e6);
      gives = same_equal (climb sha256 (node_of p) (tree_of n) (i - 1) f) r (and_r count last e6);
    }

pub says : (n i : ℕ) (r p f : List ℕ) → Said n i r p f → path_correct n i r p f ≡ true
unfolding path_correct
says n i r p f s =
    let a = s.boards.0 in
    let b = s.boards.1 in
    let c = s.board.0 in
    let d = s.board.1 in
    let last : same (climb sha256 (node_of p) (tree_of n) (i - 1) f) r ≡ true =
    ap (λ (x : List ℕ). same x r) s.gives ∙ same_self r in
    search picks

-- ---- sizes

pub root_length : (n : ℕ) (fs : ℕ → List ℕ) → length (root_of n fs) ≡ 32
unfolding root_of
root_length n fs = root_size sha256 sha256_length fs (tree_of n)

pub path_length : (n : ℕ) (fs : ℕ → List ℕ) (i : ℕ) → length (flat (path_of n fs i)) ≡ 32 * depth (tree_of n) i
unfolding path_of
path_length n fs i = flat_length sha256 sha256_length fs (tree_of n) i

pub depth_small : (n i : ℕ) → n ≤ 64 → i < n → depth (tree_of n) i ≤ 6
depth_small n i h lt = omega (arith, depth_all n i h lt, depth_most n 6 i)

-- ---- the two theorems

module _ (n i : ℕ) (fs : ℕ → List ℕ) where
  pub own_climb : n ≤ 64 → i < n → climb sha256 (node_of (flat (path_of n fs i))) (tree_of n) i (fs i) ≡ root_of n fs
  unfolding root_of path_of
  own_climb h lt =
      climb_same sha256 fs (node_of (flat (path sha256 fs (tree_of n) i))) (λ j. get_or (path sha256 fs (tree_of n) i) j []) (tree_of n) i (fs i)
      (λ j g. path_node sha256 sha256_length fs (tree_of n) i j g)
      ∙ ap (λ (k : ℕ). climb sha256 (λ j. get_or (path sha256 fs (tree_of n) i) j []) (tree_of n) i (fs k)) (sym (leaf_at_lem n i h lt))
      ∙ complete sha256 fs (tree_of n) i

-- each board's own path is correct
pub own_path : (n i : ℕ) (fs : ℕ → List ℕ) → (1 ≤ n) × (n ≤ 64) → (1 ≤ i) × (i ≤ n) → length (fs (i - 1)) ≤ 65535
    → path_correct n i (root_of n fs) (flat (path_of n fs (i - 1))) (fs (i - 1)) ≡ true
own_path n i fs b c short =
    says n i (root_of n fs) (flat (path_of n fs (i - 1))) (fs (i - 1))
    (record {
      boards = b;
      board = c;
      sized = root_length n fs;
      short = short;
      nodes = path_length n fs (i - 1);
      gives = own_climb n (i - 1) fs b.1 (omega arith);
    })

node_length : (p : List ℕ) (d j : ℕ) → length p ≡ 32 * d → j < d → length (node_of p j) ≡ 32
unfolding node_of
node_length p d j h lt = length_part (32 * j) 32 p (omega arith)

-- a correct path under the root of fs has the board's fragment of fs, or two strings hashed have one hash
pub path_binds : (n i : ℕ) (fs : ℕ → List ℕ) (p f : List ℕ) → path_correct n i (root_of n fs) p f ≡ true
    → (f ≡ fs (i - 1)) ⊎ Collision sha256 (check_strings n i p f) (tree_strings n fs)
unfolding root_of check_strings tree_strings pick
path_binds n i fs p f e =
    let s = said n i (root sha256 fs (tree_of n)) p f e in
    rw (eq-eqb (length p) (32 * depth (tree_of n) (i - 1)) s.nodes)
    (elim (bound sha256 sha256_length fs (node_of p) (tree_of n) (i - 1) f (λ j lt. node_length p (depth (tree_of n) (i - 1)) j s.nodes lt) s.gives) [
      | inl q ↦ inl (q ∙ ap fs (leaf_at_lem n (i - 1) s.boards.1 (omega arith)))
      | inr c ↦ inr c
    ])
