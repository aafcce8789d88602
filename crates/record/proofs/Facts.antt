-- What a record that is read gives, as facts on its bytes.
use mathlib.Core.Path.{◌≡◌, refl}
use Prim.Native.Nat.{ℕ, ◌+◌, ◌*◌, ◌≤◌}
use mathlib.Core.List.{List}
use mathlib.Core.Bool.{Bool, true, false}
use native.Mathlib.Omega.{arith}
use borrow.Author.Tests.{leb-true, eqb-true}
use lib.ListN.{length, get_or}
use lib.Dec.{leb, eqb}
use Rattle.octets.specs.Bytes.{pick, two_at}
use Rattle.record.specs.Form.{Read, Form, Fault, parse, parse_root, parse_path, parse_fragment, is_kind, nodes_most, fragment_ok}

-- a test on the way to a whole record was passed
pub passed : (b : Bool) (x : Read) (w a k p f : ℕ) → pick b x (Fault w a) ≡ Form k p f → (b ≡ true) × (x ≡ Form k p f)
unfolding pick
passed true x w a k p f e = (refl, e)
passed false x w a k p f e = absurd (let z : ◌≡◌ {A = ℕ} 0 1 = cc in omega arith)

pub nodes_le : (k : ℕ) → nodes_most k ≤ 6
unfolding nodes_most pick
nodes_le k = go (eqb k 3)
  where
    go : (b : Bool) → pick b 0 6 ≤ 6
    go true = omega arith
    go false = omega arith

-- the facts of a whole record
pub record Whole (s : List ℕ) (k p f : ℕ) : Type 0 where
  pub nodes : p ≤ 6
  pub ends : 39 + 32 * p + f ≡ length s
  pub kind : get_or s 0 0 ≡ k
  pub root_count : two_at s 1 ≡ 32
  pub path_count : two_at s 35 ≡ p
  pub fragment_count : two_at s (37 + 32 * p) ≡ f
  pub kind_ok : is_kind k ≡ true
  pub nodes_ok : leb p (nodes_most k) ≡ true
  pub fragment_ok_lem : fragment_ok k f ≡ true

fragment_whole : (s : List ℕ) (k p a k' p' f : ℕ) → parse_fragment s k p a ≡ Form k' p' f
    → (p ≡ p') × (a + 2 + f ≡ length s) × (k ≡ k') × (two_at s a ≡ f) × (fragment_ok k' f ≡ true)
unfolding parse_fragment
fragment_whole s k p a k' p' f e =
    let h1 = passed (leb (a + 2) (length s)) _ _ _ _ _ _ e in
    let h2 = passed (fragment_ok k (two_at s a)) _ _ _ _ _ _ h1.1 in
    let h3 = passed (leb (a + 2 + two_at s a) (length s)) _ _ _ _ _ _ h2.1 in
    let h4 = passed (leb (length s) (a + 2 + two_at s a)) _ _ _ _ _ _ h3.1 in
    let q : p ≡ p' = cc h4.1 in
    let g : two_at s a ≡ f = cc h4.1 in
    let u : a + 2 + two_at s a ≤ length s = leb-true (a + 2 + two_at s a) (length s) h3.0 in
    let v : length s ≤ a + 2 + two_at s a = leb-true (length s) (a + 2 + two_at s a) h4.0 in
    let n : k ≡ k' = cc h4.1 in
    (q, omega arith, n, g, rw (n, g) at h2.0)

path_whole : (s : List ℕ) (k k' p f : ℕ) → parse_path s k ≡ Form k' p f
    → (leb p (nodes_most k') ≡ true) × (39 + 32 * p + f ≡ length s) × (k ≡ k') × (two_at s 35 ≡ p) × (two_at s (37 + 32 * p) ≡ f) × (fragment_ok k' f ≡ true)
unfolding parse_path
path_whole s k k' p f e =
    let h1 = passed (leb (35 + 2) (length s)) _ _ _ _ _ _ e in
    let h2 = passed (leb (two_at s 35) (nodes_most k)) _ _ _ _ _ _ h1.1 in
    let h3 = passed (leb (37 + 32 * two_at s 35) (length s)) _ _ _ _ _ _ h2.1 in
    let h4 = fragment_whole s k (two_at s 35) (37 + 32 * two_at s 35) k' p f h3.1 in
    (rw (h4.0, h4.2) at h2.0, omega arith, h4.2, h4.0, rw h4.0 at h4.3, h4.4)

pub whole : (s : List ℕ) (k p f : ℕ) → parse s ≡ Form k p f → Whole s k p f
unfolding parse parse_root
whole s k p f e =
    let h1 = passed (leb (0 + 1) (length s)) _ _ _ _ _ _ e in
    let h2 = passed (is_kind (get_or s 0 0)) _ _ _ _ _ _ h1.1 in
    let h3 = passed (leb (1 + 2) (length s)) _ _ _ _ _ _ h2.1 in
    let h4 = passed (eqb (two_at s 1) 32) _ _ _ _ _ _ h3.1 in
    let h5 = passed (leb (3 + 32) (length s)) _ _ _ _ _ _ h4.1 in
    let h6 = path_whole s (get_or s 0 0) k p f h5.1 in
    let u : p ≤ nodes_most k = leb-true p (nodes_most k) h6.0 in
    record {
      nodes = omega (arith, nodes_le k);
      ends = h6.1;
      kind = h6.2;
      root_count = eqb-true (two_at s 1) 32 h4.0;
      path_count = h6.3;
      fragment_count = h6.4;
      kind_ok = rw h6.2 at h2.0;
      nodes_ok = h6.0;
      fragment_ok_lem = h6.5;
    }
