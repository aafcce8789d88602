-- A result that a chain of tests picks: one law for each way, so that `search picks` follows the tests that led to a return.
use mathlib.Core.Path.{◌≡◌, refl, sym, subst}
use Prim.Native.Nat.{ℕ, suc}
use mathlib.Core.Bool.{Bool, true, false, not, ◌&&◌, ◌||◌}
use native.Mathlib.Omega.{arith}
use lib.Dec.{T}
use borrow.Author.Tests.{lt-ltb, le-ltb, le-leb, lt-leb, eq-eqb, ne_eqb, not-true, not-false}
use Rattle.octets.specs.Bytes.{pick}

pub pick_on {ℓ} : {X : Type ℓ} (b : Bool) (r x y : X) → b ≡ true → r ≡ x → r ≡ pick b x y
unfolding pick
pick_on b r x y e h = rw e h

pub pick_off {ℓ} : {X : Type ℓ} (b : Bool) (r x y : X) → b ≡ false → r ≡ y → r ≡ pick b x y
unfolding pick
pick_off b r x y e h = rw e h

pub and_on : (a b : Bool) → a ≡ true → b ≡ true → a && b ≡ true
and_on a b p q = rw p q

pub and_off_l : (a b : Bool) → a ≡ false → a && b ≡ false
and_off_l a b p = rw p refl

pub and_off_r : (a b : Bool) → a ≡ true → b ≡ false → a && b ≡ false
and_off_r a b p q = rw p q

pub and_pass : (r a b : Bool) → a ≡ true → r ≡ b → r ≡ a && b
and_pass r a b p q = rw p q

pub and_stop : (a b : Bool) → a ≡ false → false ≡ a && b
and_stop a b p = rw p refl

pub or_stop : (a b : Bool) → a ≡ true → true ≡ a || b
or_stop a b p = rw p refl

pub or_pass : (r a b : Bool) → a ≡ false → r ≡ b → r ≡ a || b
or_pass r a b p q = rw p q

pub ruleset picks = (and_stop, or_stop, or_pass, pick_on, pick_off, and_on, and_off_l, and_off_r, and_pass, not-true, not-false, lt-ltb, le-ltb, le-leb, lt-leb, eq-eqb, ne_eqb)

-- a test does not both hold and fail
pub never : {X : Type 0} → ◌≡◌ {A = Bool} false true → X
never e = absurd (let q : ◌≡◌ {A = ℕ} 0 1 = cc in omega arith)

-- a test that holds, as an equation and as a type
pub holds : (b : Bool) → b ≡ true → T b
holds b e = subst T (sym e) tt

pub is_true : (b : Bool) → T b → b ≡ true
is_true true h = refl
is_true false h = absurd h

pub or_true : (a : Bool) → a || true ≡ true
or_true true = refl
or_true false = refl

pub or_false : (a : Bool) → a || false ≡ a
or_false true = refl
or_false false = refl

-- both of what is both
pub and_l : (a b : Bool) → a && b ≡ true → a ≡ true
and_l true b e = refl
and_l false b e = e

pub and_r : (a b : Bool) → a && b ≡ true → b ≡ true
and_r true b e = e
and_r false b e = never e

-- where a list of refusals gives 0, none of them applies
pub none_applies : (b : Bool) (q x : ℕ) → pick b (suc q) x ≡ 0 → (b ≡ false) × (x ≡ 0)
unfolding pick
none_applies true q x e = absurd (omega arith)
none_applies false q x e = (refl, e)

pub or_none_l : (a b : Bool) → a || b ≡ false → a ≡ false
or_none_l true b e = e
or_none_l false b e = refl

pub or_none_r : (a b : Bool) → a || b ≡ false → b ≡ false
or_none_r true b e = never (sym e)
or_none_r false b e = e

pub not_none : (b : Bool) → not b ≡ false → b ≡ true
not_none true e = refl
not_none false e = never (sym e)
