-- How many parties are for one thing: what a message received changes, and that no two things have n - t parties for them.
use mathlib.Core.Path.{◌≡◌, refl, sym, ap, ◌∙◌}
use Prim.Native.Nat.{ℕ, zero, suc, ◌+◌, ◌*◌, ◌≤◌}
use mathlib.Core.List.{List}
use mathlib.Core.Bool.{Bool, true, false, ◌&&◌}
use mathlib.Core.Option.{Option, none, some}
use native.Mathlib.Omega.{arith}
use borrow.Author.Tests.{eqb-true, eqb-false, leb-true, le-leb}
use lib.Count.{ones}
use lib.Dec.{eqb, leb}
use Rattle.octets.specs.Bytes.{pick, same}
use Rattle.octets.specs.Sets.{has, set_of, bit}
use Rattle.octets.proofs.Sames.{same_self, same_equal}
use Rattle.octets.proofs.Picks.{and_r, never}
use Rattle.octets.proofs.Members.{set_of_ext, ones_bit, ones_mono, some_at, some_find}
use Rattle.table.specs.Table.{most_of}
use Rattle.table.specs.declared.Table.{Table}
use Rattle.table.proofs.Within.{Within}
use Rattle.state.specs.Sound.{naming, reaches}
use Rattle.state.proofs.Tallies.{naming_find}
use Rattle.figure.specs.Received.{first, noted, parties, is_for, parties_for, shown}

pub clash : {X : Type 0} (c : Bool) → c ≡ true → c ≡ false → X
clash c t f = never (sym f ∙ t)

-- a test that cannot hold does not
pub fails : (c : Bool) → (c ≡ true → ⊥) → c ≡ false
fails true h = absurd (h refl)
fails false h = refl

-- ---- tests that agree, but for one number; tests that exclude each other

ones_tail : (P Q : ℕ → Bool) (a m : ℕ) → ((j : ℕ) → a ≤ j → P j ≡ Q j) → ones (set_of P a m) ≤ ones (set_of Q a m)
unfolding set_of
ones_tail P Q a zero h = omega arith
ones_tail P Q a (suc m) h =
    omega (
      arith,
      ones_bit (P a) (set_of P (a + 1) m),
      ones_bit (Q a) (set_of Q (a + 1) m),
      ones_tail P Q (a + 1) m (λ j l. h j (omega arith)),
      ap bit (h a (omega arith)),
    )

bit_few : (c : Bool) → bit c ≤ 1
bit_few true = omega arith
bit_few false = omega arith

ones_one_more : (P Q : ℕ → Bool) (i a m : ℕ) → ((j : ℕ) → (j ≡ i → ⊥) → P j ≡ Q j) → ones (set_of P a m) ≤ ones (set_of Q a m) + 1
unfolding set_of
ones_one_more P Q i a zero h = omega arith
ones_one_more P Q i a (suc m) h = go (ones_one_more P Q i (a + 1) m h) (eqb a i) refl
  where
    here : a ≡ i → ones (set_of P (a + 1) m) ≤ ones (set_of Q (a + 1) m)
    here e = ones_tail P Q (a + 1) m (λ j l. h j (λ z. omega arith))

    go : ones (set_of P (a + 1) m) ≤ ones (set_of Q (a + 1) m) + 1 → (c : Bool) → eqb a i ≡ c
        → ones (bit (P a) + 2 * set_of P (a + 1) m) ≤ ones (bit (Q a) + 2 * set_of Q (a + 1) m) + 1
    go rest true e =
        omega (arith, ones_bit (P a) (set_of P (a + 1) m), ones_bit (Q a) (set_of Q (a + 1) m), here (eqb-true a i e), bit_few (P a))
    go rest false e =
        omega (
          arith,
          ones_bit (P a) (set_of P (a + 1) m),
          ones_bit (Q a) (set_of Q (a + 1) m),
          ap bit (h a (eqb-false a i e)),
        )

not_both : (p q : Bool) → (p ≡ true → q ≡ true → ⊥) → bit p + bit q ≤ 1
not_both true true h = absurd (h refl refl)
not_both true false h = omega arith
not_both false q h = omega (arith, bit_few q)

ones_apart : (P Q : ℕ → Bool) (a m : ℕ) → ((j : ℕ) → P j ≡ true → Q j ≡ true → ⊥) → ones (set_of P a m) + ones (set_of Q a m) ≤ m
unfolding set_of ones
ones_apart P Q a zero h = omega arith
ones_apart P Q a (suc m) h =
    omega (
      arith,
      ones_bit (P a) (set_of P (a + 1) m),
      ones_bit (Q a) (set_of Q (a + 1) m),
      ones_apart P Q (a + 1) m h,
      not_both (P a) (Q a) (h a),
    )

-- ---- the same of parties

pub parties_same : (b : Table) (P Q : ℕ → Bool) → ((j : ℕ) → P (suc j) ≡ Q (suc j)) → parties b P ≡ parties b Q
unfolding parties
parties_same b P Q h = set_of_ext (λ i. P (suc i)) (λ i. Q (suc i)) 0 b.n (λ j l. h j)

pub parties_fewer : (b : Table) (P Q : ℕ → Bool) → ((j : ℕ) → P j ≡ true → Q j ≡ true) → ones (parties b P) ≤ ones (parties b Q)
unfolding parties
parties_fewer b P Q h = ones_mono (λ i. P (suc i)) (λ i. Q (suc i)) 0 b.n (λ j l e. h (suc j) e)

parties_one_more : (b : Table) (i : ℕ) (P Q : ℕ → Bool) → ((j : ℕ) → (j ≡ i → ⊥) → P j ≡ Q j) → ones (parties b P) ≤ ones (parties b Q) + 1
unfolding parties
parties_one_more b zero P Q h = omega (arith, ones_mono (λ i. P (suc i)) (λ i. Q (suc i)) 0 b.n (λ j l e. sym (h (suc j) (λ z. omega arith)) ∙ e))
parties_one_more b (suc i) P Q h = ones_one_more (λ j. P (suc j)) (λ j. Q (suc j)) i 0 b.n (λ j ne. h (suc j) (λ z. ne (omega arith)))

-- ---- something received from P_i

module _ {X : Type 0} (b : Table) (F : Option X → Bool) (i : ℕ) (v : X) (f : ℕ → Option X) where
  -- if the test does not hold of it, as many pass as before
  noted_else : F (some v) ≡ F none → (j : ℕ) → F (noted i v f j) ≡ F (f j)
  unfolding noted pick first
  noted_else e j = go (eqb j i) (f j)
    where
      go : (c : Bool) (o : Option X) → F (pick c (first o v) o) ≡ F o
      go true none = e
      go true (some u) = refl
      go false o = refl

  pub parties_else : F (some v) ≡ F none → parties b (λ j. F (noted i v f j)) ≡ parties b (λ j. F (f j))
  parties_else e = parties_same b (λ j. F (noted i v f j)) (λ j. F (f j)) (λ j. noted_else e (suc j))

  noted_other : (j : ℕ) → (j ≡ i → ⊥) → F (noted i v f j) ≡ F (f j)
  unfolding noted pick
  noted_other j ne = go (eqb j i) refl
    where
      go : (c : Bool) → eqb j i ≡ c → F (pick c (first (f j) v) (f j)) ≡ F (f j)
      go true e = absurd (ne (eqb-true j i e))
      go false e = refl

  -- and it is at most one party more
  pub parties_one : ones (parties b (λ j. F (noted i v f j))) ≤ ones (parties b (λ j. F (f j))) + 1
  parties_one = parties_one_more b i (λ j. F (noted i v f j)) (λ j. F (f j)) noted_other

-- what is received leaves the parties for anything else as they are
pub for_else : (b : Table) (i : ℕ) (u v : List ℕ) (f : ℕ → Option (List ℕ)) → same u v ≡ false → parties_for b (noted i u f) v ≡ parties_for b f v
unfolding is_for
for_else b i u v f e = parties_else b (is_for v) i u f e

-- ---- no two have n - t parties for them

for_one : (u v : List ℕ) (o : Option (List ℕ)) → is_for u o ≡ true → is_for v o ≡ true → u ≡ v
unfolding is_for
for_one u v none h k = never h
for_one u v (some w) h k = sym (same_equal w u h) ∙ same_equal w v k

unequal : (u v : List ℕ) → same u v ≡ false → u ≡ v → ⊥
unequal u v e z = let s : same v v ≡ false = rw z at e in let y : ◌≡◌ {A = Bool} false true = sym s ∙ same_self v in never y

pub one_most : (b : Table) → Within b → (f : ℕ → Option (List ℕ)) (u v : List ℕ)
    → most_of b ≤ ones (parties_for b f u) → most_of b ≤ ones (parties_for b f v) → u ≡ v
unfolding parties
one_most b w f u v h k = go (same u v) refl
  where
    go : (c : Bool) → same u v ≡ c → u ≡ v
    go true e = same_equal u v e
    go false e =
        absurd
        (omega (
          arith,
          w.third,
          ones_apart (λ i. is_for u (f (suc i))) (λ i. is_for v (f (suc i))) 0 b.n (λ j g l. unequal u v e (for_one u v (f (suc j)) g l)),
        ))

-- ---- the parties for one thing are the boards of a set that name it

pub for_shown : (c : Bool) (u v : List ℕ) → is_for v (pick c (some u) none) ≡ (c && same u v)
unfolding is_for pick
for_shown true u v = refl
for_shown false u v = refl

pub parties_seen : (b : Table) (set : ℕ) (kept : ℕ → List ℕ) (v : List ℕ) → parties_for b (shown set kept) v ≡ naming b.n set kept v
unfolding parties naming shown
parties_seen b set kept v =
    set_of_ext (λ i. is_for v (shown set kept (suc i))) (λ i. has set i && same (kept i) v) 0 b.n (λ i l. for_shown (has set i) (kept i) v)

-- what q boards name, and that some boards name one thing
module _ (n q set : ℕ) (f : ℕ → List ℕ) where
  pub reaches_by : (v : List ℕ) → 1 ≤ q → q ≤ ones (naming n set f v) → reaches n q set f ≡ true
  unfolding reaches
  reaches_by v one h =
      let (i, l, t, e) = naming_find n set f v (omega arith) in
      some_at (λ j. has set j && leb q (ones (naming n set f (f j)))) 0 n i (omega arith) (omega arith) (rw (t, e, le-leb q (ones (naming n set f v)) h))

  pub reaches_of : reaches n q set f ≡ true → (v : List ℕ) × (q ≤ ones (naming n set f v))
  unfolding reaches
  reaches_of e =
      let (i, l, t) = some_find (λ j. has set j && leb q (ones (naming n set f (f j)))) 0 n e in
      (f i, leb-true q (ones (naming n set f (f i))) (and_r (has set i) (leb q (ones (naming n set f (f i)))) t))

-- so none is named by q boards where no party's count has q
pub none_reaches : (b : Table) (q set : ℕ) (kept : ℕ → List ℕ)
    → ((v : List ℕ) → q ≤ ones (parties_for b (shown set kept) v) → ⊥) → reaches b.n q set kept ≡ false
none_reaches b q set kept h =
    fails (reaches b.n q set kept) (λ e. let (v, k) = reaches_of b.n q set kept e in h v (rw (parties_seen b set kept v) k))

pub not_reached : (b : Table) (q set : ℕ) (kept : ℕ → List ℕ) → 1 ≤ q → reaches b.n q set kept ≡ false
    → (v : List ℕ) → q ≤ ones (parties_for b (shown set kept) v) → ⊥
not_reached b q set kept one e v h = clash (reaches b.n q set kept) (reaches_by b.n q set kept v one (rw (parties_seen b set kept v) at h)) e
