-- Parts that have a form are those of a record; parts that have none, no record has.
use mathlib.Core.Path.{◌≡◌}
use Prim.Native.Nat.{ℕ, ◌+◌, ◌*◌, ◌/◌, ◌%◌, ◌≤◌}
use mathlib.Core.List.{List}
use mathlib.Core.Bool.{Bool, true, false, ◌&&◌}
use native.Mathlib.Omega.{arith}
use borrow.Author.Tests.{leb-true, eqb-true}
use lib.ListN.{length}
use lib.Dec.{leb, eqb}
use Rattle.octets.specs.Bytes.{pick, part}
use Rattle.octets.proofs.Laws.{length_part}
use Rattle.octets.proofs.Picks.{and_l, and_r}
use Rattle.record.specs.Form.{Form, out_bytes, parse, is_kind, nodes_most, path_ok, fragment_ok, record_of, form_of, Parts}
use Rattle.record.proofs.Facts.{passed, whole, nodes_le}
use Rattle.record.proofs.Round.{read_back}

-- what the form says of the parts
pub record Known (k root path fragment k' p f : ℕ) : Type 0 where
  pub kind : k ≡ k'
  pub kind_ok : is_kind k ≡ true
  pub root_len : root ≡ 32
  pub path_len : path ≡ 32 * p
  pub nodes : p ≤ nodes_most k
  pub fragment_len : fragment ≡ f
  pub fragment_ok_lem : fragment_ok k fragment ≡ true

pub known : (k root path fragment k' p f : ℕ) → form_of k root path fragment ≡ Form k' p f → Known k root path fragment k' p f
unfolding form_of path_ok
known k root path fragment k' p f h =
    let h1 = passed (is_kind k) _ _ _ _ _ _ h in
    let h2 = passed (eqb root 32) _ _ _ _ _ _ h1.1 in
    let h3 = passed (eqb (path % 32) 0 && leb (path / 32) (nodes_most k)) _ _ _ _ _ _ h2.1 in
    let h4 = passed (fragment_ok k fragment) _ _ _ _ _ _ h3.1 in
    let e : path % 32 ≡ 0 = eqb-true (path % 32) 0 (and_l _ _ h3.0) in
    let l : path / 32 ≤ nodes_most k = leb-true (path / 32) (nodes_most k) (and_r (eqb (path % 32) 0) _ h3.0) in
    let q : path / 32 ≡ p = cc h4.1 in
    let g : fragment ≡ f = cc h4.1 in
    let d : k ≡ k' = cc h4.1 in
    record {
      kind = d;
      kind_ok = h1.0;
      root_len = eqb-true root 32 h2.0;
      path_len = omega arith;
      nodes = omega arith;
      fragment_len = g;
      fragment_ok_lem = h4.0;
    }

-- a record of kind k can have parts of so many bytes
abbrev pub Fits : ℕ → ℕ → ℕ → ℕ → Type 0
Fits k root path fragment = form_of k root path fragment ≡ Form k (path / 32) fragment

pub fits : (k root path fragment k' p f : ℕ) → form_of k root path fragment ≡ Form k' p f → Fits k root path fragment
fits k root path fragment k' p f h =
    let w = known k root path fragment k' p f h in
    let e : path / 32 ≡ p = omega (arith, w.path_len) in
    rw (h, e, w.kind, w.fragment_len)

-- a kind is 1, 2 or 3
pub kind_few : (k : ℕ) → is_kind k ≡ true → (1 ≤ k) × (k ≤ 3)
unfolding is_kind
kind_few k h = (leb-true 1 k (and_l _ _ h), leb-true k 3 (and_r (leb 1 k) _ h))

-- a record's fragment has at most 16,388 bytes
pub fragment_most : (k f : ℕ) → fragment_ok k f ≡ true → f ≤ 16388
unfolding fragment_ok pick
fragment_most k f = go (eqb k 3)
  where
    go : (b : Bool) → pick b (eqb f 0) (leb 1 f && leb f 16388) ≡ true → f ≤ 16388
    go true h = let e : f ≡ 0 = eqb-true f 0 h in omega arith
    go false h = leb-true f 16388 (and_r (leb 1 f) _ h)

-- a record's path has at most 192 bytes
pub path_most : (k path : ℕ) → path_ok k path ≡ true → path ≤ 192
unfolding path_ok
path_most k path h =
    let e : path % 32 ≡ 0 = eqb-true (path % 32) 0 (and_l _ _ h) in
    let l : path / 32 ≤ nodes_most k = leb-true (path / 32) (nodes_most k) (and_r (eqb (path % 32) 0) _ h) in
    omega (arith, nodes_le k)

-- a record has at most 16,619 bytes
pub form_short : (k root path fragment k' p f : ℕ) → form_of k root path fragment ≡ Form k' p f → 39 + 32 * p + f ≤ out_bytes
form_short k root path fragment k' p f h =
    let w = known k root path fragment k' p f h in
    omega (arith, w.nodes, nodes_le k, w.fragment_len, fragment_most k fragment w.fragment_ok_lem)

module _ (k : ℕ) (root path fragment : List ℕ) (k' p f : ℕ) (h : form_of k (length root) (length path) (length fragment) ≡ Form k' p f) where
  w : Known k (length root) (length path) (length fragment) k' p f
  w = known k (length root) (length path) (length fragment) k' p f h

  -- parts that have a form can be written
  pub parts_fit : (o : List ℕ) → out_bytes ≤ length o → Parts o root p path fragment
  parts_fit o l = record {
    root_len = w.root_len;
    nodes = omega (arith, w.nodes, nodes_le k);
    path_len = w.path_len;
    fragment_len = fragment_most k (length fragment) w.fragment_ok_lem;
    room = omega (arith, w.path_len, w.nodes, nodes_le k, fragment_most k (length fragment) w.fragment_ok_lem);
  }

  -- and are read back from what is written
  pub parts_read : parse (record_of k root p path fragment) ≡ Form k' p f
  parts_read = rw (← w.kind, ← w.fragment_len)
      (read_back k p root path fragment w.kind_ok w.root_len w.nodes (omega (arith, w.nodes, nodes_le k)) w.path_len
      w.fragment_ok_lem (omega (arith, fragment_most k (length fragment) w.fragment_ok_lem)))

-- the parts of a record have the record's form
pub parts_pass : (s : List ℕ) (k p f : ℕ) → parse s ≡ Form k p f
    → form_of k (length (part 3 32 s)) (length (part 37 (32 * p) s)) (length (part (39 + 32 * p) f s)) ≡ Form k p f
unfolding form_of path_ok pick
parts_pass s k p f e =
    let w = whole s k p f e in
    let a : length (part 3 32 s) ≡ 32 = length_part 3 32 s (omega (arith, w.ends)) in
    let b : length (part 37 (32 * p) s) ≡ 32 * p = length_part 37 (32 * p) s (omega (arith, w.ends)) in
    let c : length (part (39 + 32 * p) f s) ≡ f = length_part (39 + 32 * p) f s (omega (arith, w.ends)) in
    let q : 32 * p % 32 ≡ 0 = omega arith in
    let d : 32 * p / 32 ≡ p = omega arith in
    rw (a, b, c, q, d, w.kind_ok, w.nodes_ok, w.fragment_ok_lem)
