-- Tests that hold: of both, of one of two, and what a test picks.
use Prim.Native.Nat.{ℕ}
use native.Mathlib.Omega.{arith}
use mathlib.Core.Bool.{Bool, true, false, not, ◌&&◌, ◌||◌}
use mathlib.Core.Path.{◌≡◌, refl}
use mathlib.Core.Logic.{◌⊎◌, inl, inr}
use mathlib.Core.Option.{some, none}
use lib.Dec.{T}
use Rattle.octets.specs.Bytes.{pick}

pub both : (a b : Bool) → T a → T b → T (a && b)
both true true s t = tt
both true false s t = t
both false b s t = s

pub left : (a b : Bool) → T (a && b) → T a
left true b s = tt
left false b s = s

pub right : (a b : Bool) → T (a && b) → T b
right true true s = tt
right true false s = s
right false b s = absurd s

pub truth : (b : Bool) → T b ⊎ T (not b)
truth true = inl tt
truth false = inr tt

pub or_cases : (a b : Bool) → T (a || b) → T a ⊎ T b
or_cases true b h = inl tt
or_cases false b h = inr h

pub or_left : (a b : Bool) → T a → T (a || b)
or_left true b h = tt
or_left false b h = absurd h

pub or_right : (a b : Bool) → T b → T (a || b)
or_right true b h = tt
or_right false b h = h

pub not_or : (a b : Bool) → T (not (a || b)) → T (not a) × T (not b)
not_or true b h = absurd h
not_or false b h = (tt, h)

pub pick_true : {A : Type 0} (c : Bool) (p q : A) → T c → pick c p q ≡ p
unfolding pick
pick_true true p q h = refl
pick_true false p q h = absurd h

-- Two values that are made differently are not equal: an equation of them gives this one, by `cc`.
abbrev pub Off : Type 0
Off = ◌≡◌ {A = ℕ} 0 1

pub off : {D : Type 0} → Off → D
off e = absurd (omega arith)

pub none_some : {A D : Type 0} (a : A) → none ≡ some a → D
none_some a e = off (cc)

-- something that a test picks
pub chosen : {A : Type 0} (c : Bool) (d e : A) → pick c (some d) none ≡ some e → T c × (d ≡ e)
unfolding pick
chosen true d e q = (tt, (cc))
chosen false d e q = none_some e q
