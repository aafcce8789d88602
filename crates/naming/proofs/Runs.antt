-- `any` and `all` over a run of numbers are `some` and `every` of it.
-- Assumes nothing.
use mathlib.Core.Path.{◌≡◌, refl, ap}
use Prim.Native.Nat.{ℕ, zero, suc, ◌+◌}
use mathlib.Core.Bool.{Bool, ◌&&◌, ◌||◌}
use Rattle.std.specs.List.{list_any, list_all, range_with_len}
use Rattle.octets.specs.Sets.{some, every}

pub some_is : (P : ℕ → Bool) (a n : ℕ) → list_any P (range_with_len a n) ≡ some P a n
unfolding some
some_is P a zero = refl
some_is P a (suc n) = ap (λ b. P a || b) (some_is P (a + 1) n)

pub every_is : (P : ℕ → Bool) (a n : ℕ) → list_all P (range_with_len a n) ≡ every P a n
unfolding every
every_is P a zero = refl
every_is P a (suc n) = ap (λ b. P a && b) (every_is P (a + 1) n)
