-- What the words of demand 3 must at least say: a statement that says less fails here.
use Prim.Native.Nat.{ℕ, ◌*◌, ◌≤◌, ◌<◌}
use mathlib.Core.Bool.{Bool, not}
use mathlib.Core.Path.{◌≡◌}
use mathlib.Core.Logic.{◌⊎◌, inl, inr}
use lib.Dec.{T}
use Rattle.line.specs.Boards.{count, Board, Keepers}
use Rattle.line.specs.Run.{Machine, Run, Delivered, Over}
use Rattle.line.specs.Promise.{Promise}

-- "at most t break the rules": every choice of at most t boards, for every t with 3t < n
pub any_keepers : (n t : ℕ) (keeps : ℕ → Bool) → 3 * t < n → ((i : ℕ) → T (keeps i) → Board n i) → count (λ i. not (keeps i)) n ≤ t → Keepers n t keeps
any_keepers n t keeps third known few = record { third = third; known = known; few = few }

or_not : {X : Type 0} → X ⊎ ⊥ → X
or_not (inl x) = x
or_not (inr n) = absurd n

module _ {M : Machine} {keeps : ℕ → Bool} {S : ℕ} (Sent : ℕ → ℕ → M.Rec → Type 0) {result : M.Result} {r : Run M} where
  -- "no two rule-keeping boards deliver different results": where two do, the promise is broken
  pub split_breaks : (i j : ℕ) (d e : M.Result) → T (keeps i) → T (keeps j) → Delivered M i d r → Delivered M j e r → (d ≡ e → ⊥)
      → Promise M keeps S Sent result ⊥ r → ⊥
  split_breaks i j d e ki kj x y n p = n (or_not (p.agree i j d e ki kj x y))

  -- "under a rule-keeping sender none delivers anything but its message"
  pub other_breaks : (i : ℕ) (d : M.Result) → T (keeps S) → T (keeps i) → Delivered M i d r → (d ≡ result → ⊥) → Promise M keeps S Sent result ⊥ r → ⊥
  other_breaks i d ks ki x n p = n (or_not (p.valid i d ks ki x))

  -- "all of them have delivered": where everything is handed over and one has, or the sender keeps the rules, none is left behind
  pub left_behind : (j : ℕ) → T (keeps j) → ((d : M.Result) → Delivered M j d r → ⊥) → Over M keeps Sent r
      → ((i : ℕ) × (d : M.Result) × T (keeps i) × Delivered M i d r) ⊎ T (keeps S) → Promise M keeps S Sent result ⊥ r → ⊥
  left_behind j kj none o h p = let (d, x) = p.total o h j kj in none d x
