-- How many boards of a set name a root: in a small set, and with one board more.
use mathlib.Core.Path.{◌≡◌, refl, ap}
use Prim.Native.Nat.{ℕ, ◌^◌, ◌≤◌, ◌<◌}
use mathlib.Core.List.{List}
use mathlib.Core.Bool.{Bool, true, false, ◌&&◌}
use native.Mathlib.Omega.{arith}
use native.Mathlib.Nat.{div-one}
use borrow.Author.Tests.{lt-leb, leb-false, eqb-true, eqb-false}
use lib.Count.{ones}
use lib.Bits.{bit_or}
use lib.Dec.{leb, eqb}
use Rattle.octets.specs.Bytes.{same}
use Rattle.octets.specs.Sets.{has}
use Rattle.octets.proofs.Sames.{same_equal}
use Rattle.octets.proofs.Picks.{and_l, and_r}
use Rattle.state.specs.Sound.{naming, reaches}
use Rattle.octets.proofs.Members.{some_none, some_not, set_of_ext, ones_within, ones_mono, ones_find, has_old}

-- no more boards of a set name a root than the set has
pub naming_few : (n set : ℕ) (root : ℕ → List ℕ) (r : List ℕ) → ones (naming n set root r) ≤ ones set
unfolding naming
naming_few n set root r =
    omega (arith, ones_within (λ i. has set i && same (root i) r) set 0 n (λ i h. and_l (has set i) (same (root i) r) h), ap ones (div-one set))

pub and_none : (a b : Bool) → b ≡ false → a && b ≡ false
and_none true b e = e
and_none false b e = refl

pub reaches_few : (n q set : ℕ) (root : ℕ → List ℕ) → ones set < q → reaches n q set root ≡ false
unfolding reaches
reaches_few n q set root h =
    some_none (λ i. has set i && leb q (ones (naming n set root (root i)))) 0 n
    (λ i l. and_none (has set i) (leb q (ones (naming n set root (root i)))) (lt-leb q (ones (naming n set root (root i))) (omega (arith, naming_few n set root (root i)))))

-- with one board i + 1 more, that names a root; f and g give the roots before and after
module _ (n set i : ℕ) (root : List ℕ) (f g : ℕ → List ℕ) (out : has set i ≡ false) (new : g i ≡ root)
    (old : (j : ℕ) → j < n → (j ≡ i → ⊥) → g j ≡ f j) where
  abbrev more : ℕ
  more = bit_or set (2 ^ i)

  -- other roots are named as often as before
  pub naming_other : (r : List ℕ) → same root r ≡ false → naming n (bit_or set (2 ^ i)) g r ≡ naming n set f r
  unfolding naming
  naming_other r e =
      set_of_ext (λ j. has more j && same (g j) r) (λ j. has set j && same (f j) r) 0 n (λ j h. go j (omega arith) (eqb j i) refl)
    where
      go : (j : ℕ) → j < n → (c : Bool) → eqb j i ≡ c → (has more j && same (g j) r) ≡ (has set j && same (f j) r)
      go j h true q = let z : j ≡ i = eqb-true j i q in rw (z, new, out, e) (and_none (has more i) false refl)
      go j h false q = let z : (j ≡ i → ⊥) = eqb-false j i q in rw (has_old set i j z, old j h z)

  -- no root is named less often
  pub naming_more : (r : List ℕ) → ones (naming n set f r) ≤ ones (naming n (bit_or set (2 ^ i)) g r)
  unfolding naming
  naming_more r =
      ones_mono (λ j. has set j && same (f j) r) (λ j. has more j && same (g j) r) 0 n (λ j h t. go j (omega arith) t (eqb j i) refl)
    where
      go : (j : ℕ) → j < n → (has set j && same (f j) r) ≡ true → (c : Bool) → eqb j i ≡ c → (has more j && same (g j) r) ≡ true
      go j h t true q =
          let z : j ≡ i = eqb-true j i q in
          let y : has set j ≡ true = and_l (has set j) (same (f j) r) t in
          absurd (let x : has set i ≡ true = rw z at y in let w : ◌≡◌ {A = ℕ} 0 1 = cc in omega arith)
      go j h t false q = let z : (j ≡ i → ⊥) = eqb-false j i q in rw (has_old set i j z, old j h z) t

  -- if no root had q boards, and the one just named has not, none has
  pub reaches_more : (q : ℕ) → reaches n q set f ≡ false → leb q (ones (naming n (bit_or set (2 ^ i)) g root)) ≡ false → reaches n q (bit_or set (2 ^ i)) g ≡ false
  unfolding reaches
  reaches_more q none few =
      some_none (λ j. has more j && leb q (ones (naming n more g (g j)))) 0 n (λ j h. go j (omega arith) (eqb j i) refl)
    where
      named : (j : ℕ) → j < n → has set j ≡ true → (c : Bool) → same root (f j) ≡ c → leb q (ones (naming n more g (f j))) ≡ false
      named j h t true e = let z : root ≡ f j = same_equal root (f j) e in rw z at few
      named j h t false e =
          let y : (has set j && leb q (ones (naming n set f (f j)))) ≡ false =
          some_not (λ k. has set k && leb q (ones (naming n set f (f k)))) 0 n j none (omega arith) (omega arith) in
          rw (naming_other (f j) e) (rw t at y)

      other : (j : ℕ) → j < n → (c : Bool) → has set j ≡ c → (c && leb q (ones (naming n more g (f j)))) ≡ false
      other j h true t = named j h t (same root (f j)) refl
      other j h false t = refl

      go : (j : ℕ) → j < n → (c : Bool) → eqb j i ≡ c → (has more j && leb q (ones (naming n more g (g j)))) ≡ false
      go j h true e = let z : j ≡ i = eqb-true j i e in rw (z, new) (and_none (has more i) (leb q (ones (naming n more g root))) few)
      go j h false e = let z : (j ≡ i → ⊥) = eqb-false j i e in rw (has_old set i j z, old j h z) (other j h (has set j) refl)

-- a root that changed where nothing is kept of the set is not seen
pub naming_out : (n set i : ℕ) (f g : ℕ → List ℕ) (r : List ℕ) → has set i ≡ false → ((j : ℕ) → j < n → (j ≡ i → ⊥) → g j ≡ f j)
    → naming n set g r ≡ naming n set f r
unfolding naming
naming_out n set i f g r out old =
    set_of_ext (λ j. has set j && same (g j) r) (λ j. has set j && same (f j) r) 0 n (λ j h. go j (omega arith) (eqb j i) refl)
  where
    go : (j : ℕ) → j < n → (c : Bool) → eqb j i ≡ c → (has set j && same (g j) r) ≡ (has set j && same (f j) r)
    go j h true q = let z : j ≡ i = eqb-true j i q in rw (z, out)
    go j h false q = let z : (j ≡ i → ⊥) = eqb-false j i q in rw (old j h z)

-- a larger quorum is reached no sooner
pub reaches_larger : (n p q set : ℕ) (f : ℕ → List ℕ) → p ≤ q → reaches n p set f ≡ false → reaches n q set f ≡ false
unfolding reaches
reaches_larger n p q set f h e =
    some_none (λ i. has set i && leb q (ones (naming n set f (f i)))) 0 n (λ i l. go i (omega arith) (has set i) refl)
  where
    go : (i : ℕ) → i < n → (c : Bool) → has set i ≡ c → (c && leb q (ones (naming n set f (f i)))) ≡ false
    go i l true t =
        let y : (has set i && leb p (ones (naming n set f (f i)))) ≡ false =
        some_not (λ k. has set k && leb p (ones (naming n set f (f k)))) 0 n i e (omega arith) (omega arith) in
        let x : ones (naming n set f (f i)) < p = leb-false p (ones (naming n set f (f i))) (rw t at y) in
        lt-leb q (ones (naming n set f (f i))) (omega arith)
    go i l false t = refl

-- a root that a quorum names is kept of some board
pub naming_find : (n set : ℕ) (f : ℕ → List ℕ) (r : List ℕ) → 1 ≤ ones (naming n set f r) → (i : ℕ) × (i < n) × (has set i ≡ true) × (f i ≡ r)
unfolding naming
naming_find n set f r h =
    let (i, l, t) = ones_find (λ j. has set j && same (f j) r) 0 n h in
    (i, omega arith, and_l (has set i) (same (f i) r) t, same_equal (f i) r (and_r (has set i) (same (f i) r) t))
