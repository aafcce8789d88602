-- A loop that writes a list from the front: what stands before i is done, the rest is as it was.
-- Assumes nothing.
use mathlib.Core.Path.{◌≡◌, refl, sym, ◌∙◌, subst}
use mathlib.Core.Logic.{◌⊎◌, inl, inr, ⊎_elim}
use mathlib.Core.List.{List}
use Prim.Native.Nat.{ℕ, ◌+◌, ◌<◌, ◌≤◌}
use native.Mathlib.Nat.{eq-or-lt_of_le}
use native.Mathlib.Decide.{dec_lt}
use native.Mathlib.Omega.{arith}
use lib.ListN.{length, get_or, set, length-set}
use lib.Seq.{get_or-set_same, get_or-set_other}

not_lt : {a b : ℕ} → ¬ (a < b) → b ≤ a
not_lt n = omega arith

pub lt_or_le : (a b : ℕ) → (a < b) ⊎ (b ≤ a)
lt_or_le a b = pick (dec_lt a b)
  where
    pick : Dec (a < b) → (a < b) ⊎ (b ≤ a)
    pick (yes h) = inl h
    pick (no n) = inr (not_lt n)

pub record Walked (Q : ℕ → ℕ → Type 0) (old : List ℕ) (i : ℕ) (l : List ℕ) : Type 0 where
  pub size : length l ≡ length old
  pub done : (k : ℕ) → k < i → Q k (get_or l k 0)
  pub rest : (k : ℕ) → i ≤ k → get_or l k 0 ≡ get_or old k 0

pub start : (Q : ℕ → ℕ → Type 0) (old : List ℕ) (i : ℕ) → ((k : ℕ) → k < i → Q k (get_or old k 0)) → Walked Q old i old
start Q old i h = record { size = refl; done = h; rest = λ k g. refl }

pub next : (Q : ℕ → ℕ → Type 0) (old : List ℕ) (i : ℕ) (l : List ℕ) (v : ℕ) → Walked Q old i l → i < length l → Q i v
    → Walked Q old (i + 1) (set l i v)
next Q old i l v w h q = record {
  size = length-set l i v ∙ w.size;
  done = λ k g. ⊎_elim (λ e. subst (λ (m : ℕ). Q m (get_or (set l i v) m 0)) (sym e) (subst (Q i) (sym (get_or-set_same l i v 0 h)) q))
      (λ b. subst (Q k) (sym (get_or-set_other l i k v 0 (λ e. omega arith))) (w.done k b)) (upto k g);
  rest = λ k g. get_or-set_other l i k v 0 (λ e. omega arith) ∙ w.rest k (omega arith);
}
  where
    upto : (k : ℕ) → k < i + 1 → (k ≡ i) ⊎ (k < i)
    upto k g = eq-or-lt_of_le (omega arith)
