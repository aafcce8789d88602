-- What a board's bytes show of what a party received: one board more, a board heard already, none.
use mathlib.Core.Path.{◌≡◌, refl, ap}
use Prim.Native.Nat.{ℕ, zero, suc, ◌^◌}
use mathlib.Core.Bool.{Bool, true, false}
use mathlib.Core.Option.{Option, none, some}
use borrow.Author.Tests.{eqb-true, eqb-false}
use lib.Bits.{bit_or}
use lib.Dec.{eqb, eqb-zero-suc, eqb-suc-suc}
use Rattle.octets.specs.Bytes.{pick}
use Rattle.octets.specs.Sets.{has}
use Rattle.octets.proofs.Members.{has_none, has_new, has_old}
use Rattle.figure.specs.Received.{first, noted, shown}

module _ {X : Type 0} where
  -- a value that is shown only if its test holds
  shown_if : (c : Bool) (u v : X) → (c ≡ true → u ≡ v) → pick c (some u) none ≡ pick c (some v) none
  unfolding pick
  shown_if true u v h = ap some (h refl)
  shown_if false u v h = refl

  pub shown_same : (set : ℕ) (f g : ℕ → X) → ((j : ℕ) → has set j ≡ true → f j ≡ g j) → (k : ℕ) → shown set f k ≡ shown set g k
  unfolding shown
  shown_same set f g h zero = refl
  shown_same set f g h (suc i) = shown_if (has set i) (f i) (g i) (h i)

  pub shown_none : (f : ℕ → X) (k : ℕ) → shown 0 f k ≡ none
  unfolding shown pick
  shown_none f zero = refl
  shown_none f (suc i) = rw (has_none i)

  -- a value more, from P_(i + 1), from whom none was received
  noted_all : (i : ℕ) (v : X) (f g : ℕ → Option X) → g zero ≡ f zero → f (suc i) ≡ none → g (suc i) ≡ some v
      → ((j : ℕ) → (j ≡ i → ⊥) → g (suc j) ≡ f (suc j)) → (k : ℕ) → g k ≡ noted (suc i) v f k
  unfolding noted first pick
  noted_all i v f g e0 out new old zero = rw (eqb-zero-suc i) e0
  noted_all i v f g e0 out new old (suc j) = rw (eqb-suc-suc j i) (go (eqb j i) refl)
    where
      go : (c : Bool) → eqb j i ≡ c → g (suc j) ≡ pick c (first (f (suc j)) v) (f (suc j))
      go true e = let z : j ≡ i = eqb-true j i e in rw (z, out) new
      go false e = old j (eqb-false j i e)

  module _ (set i : ℕ) (f g : ℕ → X) (v : X) (out : has set i ≡ false) (here : g i ≡ v) (others : (j : ℕ) → (j ≡ i → ⊥) → has set j ≡ true → g j ≡ f j) where
    was_none : shown set f (suc i) ≡ none
    unfolding shown pick
    was_none = rw out

    is_there : shown (bit_or set (2 ^ i)) g (suc i) ≡ some v
    unfolding shown pick
    is_there = rw (has_new set i, here)

    others_same : (j : ℕ) → (j ≡ i → ⊥) → shown (bit_or set (2 ^ i)) g (suc j) ≡ shown set f (suc j)
    unfolding shown
    others_same j ne = rw (has_old set i j ne) (shown_if (has set j) (g j) (f j) (others j ne))

    zero_same : shown (bit_or set (2 ^ i)) g zero ≡ shown set f zero
    unfolding shown
    zero_same = refl

    pub shown_more : (k : ℕ) → shown (bit_or set (2 ^ i)) g k ≡ noted (suc i) v (shown set f) k
    shown_more = noted_all i v (shown set f) (shown (bit_or set (2 ^ i)) g) zero_same was_none is_there others_same

  -- ---- only the first counts

  first_there : (c : Bool) (u v : X) → c ≡ true → first (pick c (some u) none) v ≡ pick c (some u) none
  unfolding first pick
  first_there c u v e = rw e

  noted_again : (i : ℕ) (v : X) (f : ℕ → Option X) → first (f i) v ≡ f i → noted i v f ≡ f
  unfolding noted pick
  noted_again i v f h = λ j k. go k (eqb k i) refl j
    where
      go : (k : ℕ) (c : Bool) → eqb k i ≡ c → pick c (first (f k) v) (f k) ≡ f k
      go k true e = let z : k ≡ i = eqb-true k i e in rw z h
      go k false e = refl

  heard_first : (set i : ℕ) (f : ℕ → X) (v : X) → has set i ≡ true → first (shown set f (suc i)) v ≡ shown set f (suc i)
  unfolding shown
  heard_first set i f v = first_there (has set i) (f i) v

  pub shown_again : (set i : ℕ) (f : ℕ → X) (v : X) → has set i ≡ true → noted (suc i) v (shown set f) ≡ shown set f
  shown_again set i f v h = noted_again (suc i) v (shown set f) (heard_first set i f v h)
