-- What tells a cut cable from old firmware (document 02, request 2): a record that is cut short is 20, at the field that holds the first byte
-- missing; and a fault is always one of 20 to 25, at a place in the record or at its end.
-- Assumes nothing.
use mathlib.Core.Path.{◌≡◌, refl, ◌∙◌}
use Prim.Native.Nat.{ℕ, ◌+◌, ◌*◌, ◌≤◌, ◌<◌}
use mathlib.Core.List.{List}
use mathlib.Core.Bool.{Bool, true, false}
use native.Mathlib.Omega.{arith}
use borrow.Author.Tests.{le-leb, lt-leb, lt-ltb, le-ltb, leb-true, ltb-true, ltb-false}
use lib.ListN.{length, get_or, take}
use lib.Seq.{get_or-take, length-take-le}
use lib.Dec.{leb, ltb, eqb}
use Rattle.octets.specs.Bytes.{pick, two_at}
use Rattle.record.specs.Form.{Read, Form, Fault, need, field, parse, parse_root, parse_path, parse_fragment, is_kind, nodes_most, fragment_ok}
use Rattle.record.specs.Fields.{field_at}
use Rattle.record.proofs.Facts.{Whole, whole}

-- ---- every fault is listed, and its place is in the record or at its end

-- what is read of a record of n bytes names a fault of a list at a place up to n
unfoldable pub Placed : (ℕ → Type 0) → ℕ → Read → Type 0
Placed Listed n (Form k p f) = Unit {0}
Placed Listed n (Fault why at) = Listed why × (at ≤ n)

module _ (Listed : ℕ → Type 0) where
  pub need_placed : Listed 20 → (s : List ℕ) (a n : ℕ) (next : Read) → a ≤ length s → (a + n ≤ length s → Placed Listed (length s) next)
      → Placed Listed (length s) (need s a n next)
  unfolding Placed pick
  need_placed q s a n next l h = go (leb (a + n) (length s)) refl
    where
      go : (b : Bool) → leb (a + n) (length s) ≡ b → Placed Listed (length s) (pick b next (Fault 20 a))
      go true e = h (leb-true (a + n) (length s) e)
      go false e = (q, l)

  pub field_placed : (n : ℕ) (ok : Bool) (why a : ℕ) (next : Read) → Listed why → a ≤ n → (ok ≡ true → Placed Listed n next)
      → Placed Listed n (field ok why a next)
  unfolding Placed pick
  field_placed n true why a next q h g = g refl
  field_placed n false why a next q h g = (q, h)

-- the faults of a record
abbrev Few : ℕ → Type 0
Few why = (20 ≤ why) × (why ≤ 25)

few20 : Few 20
few20 = (omega arith, omega arith)

fragment_placed : (s : List ℕ) (k p a : ℕ) → a ≤ length s → Placed Few (length s) (parse_fragment s k p a)
unfolding parse_fragment Placed
fragment_placed s k p a l =
    need_placed Few few20 s a 2 _ l (λ h.
    field_placed Few (length s) (fragment_ok k (two_at s a)) 24 a _ (omega arith, omega arith) l (λ _.
    need_placed Few few20 s (a + 2) (two_at s a) _ h (λ g.
    field_placed Few (length s) (leb (length s) (a + 2 + two_at s a)) 25 (a + 2 + two_at s a) _ (omega arith, omega arith) g (λ _. tt))))

path_placed : (s : List ℕ) (k : ℕ) → 35 ≤ length s → Placed Few (length s) (parse_path s k)
unfolding parse_path
path_placed s k l =
    need_placed Few few20 s 35 2 _ l (λ h.
    field_placed Few (length s) (leb (two_at s 35) (nodes_most k)) 23 35 _ (omega arith, omega arith) l (λ _.
    need_placed Few few20 s 37 (32 * two_at s 35) _ h (λ g. fragment_placed s k (two_at s 35) (37 + 32 * two_at s 35) g)))

root_placed : (s : List ℕ) (k : ℕ) → 1 ≤ length s → Placed Few (length s) (parse_root s k)
unfolding parse_root
root_placed s k l =
    need_placed Few few20 s 1 2 _ l (λ h.
    field_placed Few (length s) (eqb (two_at s 1) 32) 22 1 _ (omega arith, omega arith) l (λ _.
    need_placed Few few20 s 3 32 _ h (λ g. path_placed s k g)))

placed : (s : List ℕ) → Placed Few (length s) (parse s)
unfolding parse
placed s =
    need_placed Few few20 s 0 1 _ (omega arith) (λ h.
    field_placed Few (length s) (is_kind (get_or s 0 0)) 21 0 _ (omega arith, omega arith) (omega arith) (λ _. root_placed s (get_or s 0 0) h))

-- "the offset is at most the record's length", and the number is one of 20 to 25
pub fault_placed : (s : List ℕ) (why at : ℕ) → parse s ≡ Fault why at → (20 ≤ why) × (why ≤ 25) × (at ≤ length s)
unfolding Placed
fault_placed s why at e = let q : Few why × (at ≤ length s) = rw e at (placed s) in (q.0.0, q.0.1, q.1)

-- ---- a cut

module _ (s : List ℕ) (k p f c : ℕ) (e : parse s ≡ Form k p f) (h : c < length s) where
  w : Whole s k p f
  w = whole s k p f e

  len : length (take c s) ≡ c
  len = length-take-le c s (omega arith)

  byte : (i : ℕ) → i < c → get_or (take c s) i 0 ≡ get_or s i 0
  byte i l = get_or-take c s i 0 l

  two : (a n : ℕ) → a + 2 ≤ c → two_at s a ≡ n → two_at (take c s) a ≡ n
  two a n l g = rw (byte a (omega arith), byte (a + 1) (omega arith)) g

  past_kind : 1 ≤ c → parse (take c s) ≡ parse_root (take c s) k
  unfolding parse pick
  past_kind l = rw (len, le-leb (0 + 1) c l, byte 0 l, w.kind, w.kind_ok)

  past_root : 35 ≤ c → parse (take c s) ≡ parse_path (take c s) k
  unfolding parse_root pick
  past_root l = past_kind (omega arith)
      ∙ rw (len, le-leb (1 + 2) c (omega arith), two 1 32 (omega arith) w.root_count, le-leb (3 + 32) c l)

  past_path : 37 + 32 * p ≤ c → parse (take c s) ≡ parse_fragment (take c s) k p (37 + 32 * p)
  unfolding parse_path pick
  past_path l = past_root (omega arith)
      ∙ rw (len, le-leb (35 + 2) c (omega arith), two 35 p (omega arith) w.path_count, w.nodes_ok, le-leb (37 + 32 * p) c l)

  abbrev Names : Type 0
  Names = parse (take c s) ≡ Fault 20 (field_at p c)

  in_kind : c < 1 → Names
  unfolding parse field_at pick
  in_kind l = rw (len, lt-leb (0 + 1) c l, lt-ltb c 1 l)

  in_root_count : 1 ≤ c → c < 3 → Names
  unfolding parse_root field_at pick
  in_root_count g l = past_kind g ∙ rw (len, lt-leb (1 + 2) c l, le-ltb c 1 g, lt-ltb c 3 l)

  in_root : 3 ≤ c → c < 35 → Names
  unfolding parse_root field_at pick
  in_root g l = past_kind (omega arith)
      ∙ rw (len, le-leb (1 + 2) c g, two 1 32 g w.root_count, lt-leb (3 + 32) c l, le-ltb c 1 (omega arith), le-ltb c 3 g, lt-ltb c 35 l)

  in_path_count : 35 ≤ c → c < 37 → Names
  unfolding parse_path field_at pick
  in_path_count g l = past_root g
      ∙ rw (len, lt-leb (35 + 2) c l, le-ltb c 1 (omega arith), le-ltb c 3 (omega arith), le-ltb c 35 g, lt-ltb c 37 l)

  in_path : 37 ≤ c → c < 37 + 32 * p → Names
  unfolding parse_path field_at pick
  in_path g l = past_root (omega arith)
      ∙ rw (
        len,
        le-leb (35 + 2) c g,
        two 35 p g w.path_count,
        w.nodes_ok,
        lt-leb (37 + 32 * p) c l,
        le-ltb c 1 (omega arith),
        le-ltb c 3 (omega arith),
        le-ltb c 35 (omega arith),
        le-ltb c 37 g,
        lt-ltb c (37 + 32 * p) l,
      )

  -- the field that holds c is the fragment's count, or the fragment
  at_fragment : 37 + 32 * p ≤ c → (b : Bool) → ltb c (39 + 32 * p) ≡ b → field_at p c ≡ pick b (37 + 32 * p) (39 + 32 * p)
  unfolding field_at pick
  at_fragment g b q =
      rw (le-ltb c 1 (omega arith), le-ltb c 3 (omega arith), le-ltb c 35 (omega arith), le-ltb c 37 (omega arith), le-ltb c (37 + 32 * p) g, q)

  in_fragment : 37 + 32 * p ≤ c → (b : Bool) → ltb c (39 + 32 * p) ≡ b → Names
  unfolding parse_fragment pick
  in_fragment g true q = past_path g
      ∙ rw (len, at_fragment g true q, lt-leb (37 + 32 * p + 2) c (let l : c < 39 + 32 * p = ltb-true c (39 + 32 * p) q in omega arith))
  in_fragment g false q =
      let l : 39 + 32 * p ≤ c = ltb-false c (39 + 32 * p) q in
      let z : 37 + 32 * p + 2 ≡ 39 + 32 * p = omega arith in
      past_path g
      ∙ rw (
        len,
        at_fragment g false q,
        le-leb (37 + 32 * p + 2) c (omega arith),
        two (37 + 32 * p) f (omega arith) w.fragment_count,
        w.fragment_ok_lem,
        lt-leb (37 + 32 * p + 2 + f) c (omega (arith, w.ends)),
        z,
      )

  -- "a cut of a well-formed record at byte c names the field that holds c": it is 20, as every proper beginning of a record is
  pub cut_names : Names
  cut_names = kind (ltb c 1) refl
    where
      path : 37 ≤ c → (b : Bool) → ltb c (37 + 32 * p) ≡ b → Names
      path g true q = in_path g (ltb-true c (37 + 32 * p) q)
      path g false q = in_fragment (ltb-false c (37 + 32 * p) q) (ltb c (39 + 32 * p)) refl

      path_count : 35 ≤ c → (b : Bool) → ltb c 37 ≡ b → Names
      path_count g true q = in_path_count g (ltb-true c 37 q)
      path_count g false q = path (ltb-false c 37 q) (ltb c (37 + 32 * p)) refl

      root : 3 ≤ c → (b : Bool) → ltb c 35 ≡ b → Names
      root g true q = in_root g (ltb-true c 35 q)
      root g false q = path_count (ltb-false c 35 q) (ltb c 37) refl

      root_count : 1 ≤ c → (b : Bool) → ltb c 3 ≡ b → Names
      root_count g true q = in_root_count g (ltb-true c 3 q)
      root_count g false q = root (ltb-false c 3 q) (ltb c 35) refl

      kind : (b : Bool) → ltb c 1 ≡ b → Names
      kind true q = in_kind (ltb-true c 1 q)
      kind false q = root_count (ltb-false c 1 q) (ltb c 3) refl
