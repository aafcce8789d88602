-- A set of boards and what each of them named: those that named one value, after one board more.
use Prim.Native.Nat.{ℕ, ◌≤◌}
use mathlib.Core.Bool.{Bool, true, false, not, ◌&&◌}
use mathlib.Core.Path.{◌≡◌, subst}
use mathlib.Core.Logic.{◌⊎◌, inl, inr}
use lib.Dec.{T, T_not, eqb, eqb→eq, eqb_refl}
use Rattle.octets.specs.Bytes.{pick}
use Rattle.line.specs.Boards.{count}
use Rattle.line.specs.Core.{set_at}
use Rattle.line.proofs.Tests.{both, left, right}
use Rattle.line.proofs.Counts.{count_le}

module _ {Val : Type 0} (same : Val → Val → Bool) where
  -- the boards in p that named v
  abbrev pub named : (ℕ → Bool) → (ℕ → Val) → Val → ℕ → Bool
  named p q v k = p k && same (q k) v

  pub named_stays : (p : ℕ → Bool) (q : ℕ → Val) (i : ℕ) (c : Bool) (u v : Val) (k : ℕ) → T (not (p i)) → T (named p q v k)
      → T (named (set_at p i c) (set_at q i u) v k)
  unfolding pick
  named_stays p q i c u v k np h = go (eqb k i) (eqb→eq k i)
    where
      go : (b : Bool) → (T b → k ≡ i) → T (pick b c (p k) && same (pick b u (q k)) v)
      go true e = absurd (T_not (p i) np (subst (λ a. T (p a)) (e tt) (left (p k) _ h)))
      go false e = h

  pub named_there : ((v : Val) → T (same v v)) → (p : ℕ → Bool) (q : ℕ → Val) (i : ℕ) (c : Bool) (u : Val) → T c → T (named (set_at p i c) (set_at q i u) u i)
  unfolding pick
  named_there same_refl p q i c u h = go (eqb i i) (eqb_refl i)
    where
      go : (b : Bool) → T b → T (pick b c (p i) && same (pick b u (q i)) u)
      go true e = both c (same u u) h (same_refl u)
      go false e = absurd e

  module _ (same_eq : (u v : Val) → T (same u v) → u ≡ v) where
    pub named_from : (p : ℕ → Bool) (q : ℕ → Val) (i : ℕ) (c : Bool) (u v : Val) (k : ℕ) → T (named (set_at p i c) (set_at q i u) v k)
        → T (named p q v k) ⊎ ((k ≡ i) × (u ≡ v) × T c)
    unfolding pick
    named_from p q i c u v k = go (eqb k i) (eqb→eq k i)
      where
        go : (b : Bool) → (T b → k ≡ i) → T (pick b c (p k) && same (pick b u (q k)) v) → T (named p q v k) ⊎ ((k ≡ i) × (u ≡ v) × T c)
        go true e h = inr (e tt, same_eq u v (right c _ h), left c _ h)
        go false e h = inl h

    -- other values gain nothing
    pub named_count : (n : ℕ) (p : ℕ → Bool) (q : ℕ → Val) (i : ℕ) (c : Bool) (u v : Val) → (u ≡ v → ⊥)
        → count (named (set_at p i c) (set_at q i u) v) n ≤ count (named p q v) n
    named_count n p q i c u v ne = count_le (named (set_at p i c) (set_at q i u) v) (named p q v) n
        (λ k b h. elim (named_from p q i c u v k h) [ inl g ↦ g | inr (a, e, d) ↦ absurd (ne e) ])
