-- What is seen of the boards of a set when bytes or the set change.
use Prim.Native.Nat.{ℕ, zero, suc, ◌-◌, ◌^◌}
use native.Mathlib.Omega.{arith}
use mathlib.Core.Bool.{Bool, true, false}
use mathlib.Core.Path.{◌≡◌, refl, sym, ◌∙◌, ap}
use mathlib.Core.List.{List, []}
use borrow.Author.Tests.{eqb-true, eqb-false}
use lib.Dec.{T, eqb, eqb-zero-suc, eqb-suc-suc}
use lib.Bits.{bit_or}
use Rattle.octets.specs.Bytes.{pick}
use Rattle.octets.specs.Sets.{has}
use Rattle.state.specs.Kept.{member, masked}
use Rattle.octets.proofs.Members.{has_add}

-- one board more
pub member_add : (set i k : ℕ) → member (bit_or set (2 ^ i)) k ≡ pick (eqb k (suc i)) true (member set k)
unfolding member pick
member_add set i zero = ap (λ (x : Bool). pick x true false) (sym (eqb-zero-suc i))
member_add set i (suc k) = has_add set i k ∙ ap (λ (x : Bool). pick x true (has set k)) (sym (eqb-suc-suc k i))

-- where the boards of a set keep what they had, the same is seen
pub masked_same : (set : ℕ) (f g : ℕ → List ℕ) → ((j : ℕ) → T (member set (suc j)) → g j ≡ f j) → (k : ℕ) → masked set g k ≡ masked set f k
unfolding member pick
masked_same set f g h zero = refl
masked_same set f g h (suc j) = go (member set (suc j)) (h j)
  where
    z : suc j - 1 ≡ j
    z = omega arith

    go : (c : Bool) → (T c → g j ≡ f j) → pick c (g (suc j - 1)) [] ≡ pick c (f (suc j - 1)) []
    go true q = ap g z ∙ q tt ∙ ap f (sym z)
    go false q = refl

-- one board more, and what is kept of it
pub masked_add : (set i : ℕ) (r : List ℕ) (f g : ℕ → List ℕ) → g i ≡ r → ((j : ℕ) → T (member set (suc j)) → (j ≡ i → ⊥) → g j ≡ f j)
    → (k : ℕ) → masked (bit_or set (2 ^ i)) g k ≡ pick (eqb k (suc i)) r (masked set f k)
unfolding member pick
masked_add set i r f g new old k =
    ap (λ (c : Bool). pick c (g (k - 1)) []) (member_add set i k) ∙ go (eqb k (suc i)) (eqb-true k (suc i)) (eqb-false k (suc i))
  where
    rest : (k : ℕ) (c : Bool) → (T c → T (member set k)) → (k ≡ suc i → ⊥) → pick c (g (k - 1)) [] ≡ pick c (f (k - 1)) []
    rest zero true m ne = absurd (m tt)
    rest (suc j) true m ne = let z : suc j - 1 ≡ j = omega arith in rw z (old j (m tt) (λ q. ne (ap suc q)))
    rest k false m ne = refl

    go : (c : Bool) → (c ≡ true → k ≡ suc i) → (c ≡ false → k ≡ suc i → ⊥) → pick (pick c true (member set k)) (g (k - 1)) [] ≡ pick c r (masked set f k)
    go true q ne = ap g (let z : k - 1 ≡ i = omega (arith, q refl) in z) ∙ new
    go false q ne = rest k (member set k) (λ t. t) (ne refl)
