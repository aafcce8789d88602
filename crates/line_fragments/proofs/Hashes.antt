-- The strings hashed in a broadcast's run were hashed in the run of the larger boards that carry it.
use Prim.Native.Nat.{ℕ}
use mathlib.Core.Bool.{Bool}
use mathlib.Core.Path.{◌≡◌, refl}
use mathlib.Core.Logic.{◌⊎◌, inl, inr}
use mathlib.Core.Option.{Option, some, none}
use lib.Dec.{T}
use Rattle.line.specs.Run.{Machine, In, Run, fresh, after, state}
use Rattle.line.specs.Project.{extend, project}
use Rattle.line.proofs.Projected.{Carries, shows}
use Rattle.line_fragments.specs.Code.{Code}
use Rattle.line_fragments.specs.Hashed.{Hashed, InRun, CollisionIn}

module _ {B M : Machine} {sees : B.State → In B → Option (In M)} {keeps : ℕ → Bool} (A : Carries B M sees keeps) {Str : Type 0} {hashes_b : B.State → In B → Str → Type 0}
    {hashes : M.State → In M → Str → Type 0}
    -- a step of the larger board hashes what the step that it passes on hashes
    (step : (j : ℕ) (b : B.State) (s : M.State) → A.Shows j b s → (x : In B) (z : In M) (y : Str) → sees b x ≡ some z → hashes s z y → hashes_b b x y) where
  last_hashed : {k : ℕ} {y : Str} {q : Run M} {z : In M} → Hashed M Str hashes keeps y (after q k z) → Hashed M Str hashes keeps y q ⊎ (T (keeps k) × hashes (state M q k) z y)
  last_hashed (Hashed.now kk h) = inr (kk, h)
  last_hashed (Hashed.then p) = inl p

  none_hashed : {y : Str} → Hashed M Str hashes keeps y fresh → ⊥
  none_hashed p = elim p [ ]

  hashed_back : (r : Run B) (y : Str) → Hashed M Str hashes keeps y (project B M sees r) → Hashed B Str hashes_b keeps y r
  unfolding project
  hashed_back fresh y = λ p. absurd (none_hashed p)
  hashed_back (after r k x) y = go (sees (state B r k) x) refl (hashed_back r y)
    where
      go : (o : Option (In M)) → sees (state B r k) x ≡ o → (Hashed M Str hashes keeps y (project B M sees r) → Hashed B Str hashes_b keeps y r)
          → Hashed M Str hashes keeps y (extend B M sees (project B M sees r) k o) → Hashed B Str hashes_b keeps y (after r k x)
      go none e ih p = Hashed.then (ih p)
      go (some z) e ih p = elim (last_hashed p) [
        | inl q ↦ Hashed.then (ih q)
        | inr (kk, h) ↦ Hashed.now kk (step k (state B r k) (state M (project B M sees r) k) (shows A r k kk) x z y e h)
      ]

-- so a collision there is one here
pub collides : {B M : Machine} {sees : B.State → In B → Option (In M)} {keeps : ℕ → Bool} (A : Carries B M sees keeps) (C : Code) {hashes_b : B.State → In B → C.Str → Type 0}
    {hashes : M.State → In M → C.Str → Type 0}
    → ((j : ℕ) (b : B.State) (s : M.State) → A.Shows j b s → (x : In B) (z : In M) (y : C.Str) → sees b x ≡ some z → hashes s z y → hashes_b b x y)
    → (S : ℕ) (m : C.Msg) (r : Run B) → CollisionIn C M hashes keeps S m (project B M sees r) → CollisionIn C B hashes_b keeps S m r
collides {B} {M} {sees} {keeps} A C {hashes_b} {hashes} step S m r (x, y, hx, hy, ne, e) = (x, y, in_run x hx, in_run y hy, ne, e)
  where
    in_run : (y : C.Str) → InRun C M hashes keeps S m (project B M sees r) y → InRun C B hashes_b keeps S m r y
    in_run y (inl h) = inl (hashed_back A step r y h)
    in_run y (inr h) = inr h

-- what a board that breaks the rules hashes does not count
pub breaker_none : {M : Machine} {Str : Type 0} {hashes : M.State → In M → Str → Type 0} {keeps : ℕ → Bool} {y : Str} {r : Run M} {j : ℕ} {x : In M}
    → (T (keeps j) → ⊥) → Hashed M Str hashes keeps y (after r j x) → Hashed M Str hashes keeps y r
breaker_none n (Hashed.now kj h) = absurd (n kj)
breaker_none n (Hashed.then p) = p
