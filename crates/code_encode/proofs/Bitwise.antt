-- A column added to rooms bit by bit, as often as the boards' powers say.
-- Assumes nothing.
use mathlib.Core.Path.{◌≡◌, sym, ap, ◌∙◌}
use mathlib.Core.List.{List}
use Prim.Native.Nat.{ℕ, ◌+◌, ◌*◌, ◌/◌, ◌%◌, ◌^◌, ◌<◌, ◌≤◌}
use lib.ListN.{get_or}
use Rattle.field.specs.Field.{add, double, mul}
use Rattle.code_encode.specs.Patch.{Patch, plus_bit, plus_times}
use Rattle.code_encode.proofs.Patches.{patch_same, patch_as, patch_then}
use Rattle.code_encode.proofs.Sums.{rest_start, rest_bit, rest_next, rest_none, no_more, shifted_lt}

-- Byte d of room i before bit b: what it is to be, and once more what it still lacks (in this field a thing added twice is not added).
abbrev pub owing : ℕ → ℕ → List ℕ → List ℕ → List ℕ → ℕ → List ℕ → ℕ → ℕ → ℕ
owing at s powers first old b column i d = add (plus_times at s powers first old i d) (mul (get_or powers i 0 / 2 ^ b) (get_or column d 0))

-- after bit b, before the column is doubled
abbrev pub owed : ℕ → ℕ → List ℕ → List ℕ → List ℕ → ℕ → List ℕ → ℕ → ℕ → ℕ
owed at s powers first old b column i d = add (plus_times at s powers first old i d) (mul (get_or powers i 0 / 2 ^ b / 2) (double (get_or column d 0)))

module _ (at count s n : ℕ) (powers first old : List ℕ) where
  pub owing_start : Patch at count s n (owing at s powers first old 0 first) old old
  owing_start =
      patch_same at count s n (owing at s powers first old 0 first) old
      (λ i d h l. rest_start (get_or old (at + i * s + d) 0) (get_or powers i 0) (get_or first d 0))

  pub owing_bit : (b : ℕ) (column area new : List ℕ) → ((i : ℕ) → get_or powers i 0 < 256) → ((d : ℕ) → d < n → get_or column d 0 < 256)
      → Patch at count s n (owing at s powers first old b column) old area → Patch at count s n (plus_bit at s b powers column area) area new
      → Patch at count s n (owed at s powers first old b column) old new
  owing_bit b column area new bytes small u v =
      patch_as at count s n (plus_bit at s b powers column area) old (owed at s powers first old b column) new
      (patch_then at count s n (owing at s powers first old b column) old (plus_bit at s b powers column area) area new u v)
      (λ i d h l. ap (λ (x : ℕ). add x (get_or powers i 0 / 2 ^ b % 2 * get_or column d 0)) (u.each i d h l)
      ∙ rest_bit (plus_times at s powers first old i d) (get_or powers i 0 / 2 ^ b) (get_or column d 0) (shifted_lt (get_or powers i 0) b (bytes i)) (small d l))

  pub owing_next : (b : ℕ) (column doubled new : List ℕ) → ((d : ℕ) → d < n → get_or doubled d 0 ≡ double (get_or column d 0))
      → Patch at count s n (owed at s powers first old b column) old new → Patch at count s n (owing at s powers first old (b + 1) doubled) old new
  owing_next b column doubled new twice w =
      patch_as at count s n (owed at s powers first old b column) old (owing at s powers first old (b + 1) doubled) new w
      (λ i d h l. ap (λ (y : ℕ). add (plus_times at s powers first old i d) (mul (get_or powers i 0 / 2 ^ b / 2) y)) (sym (twice d l))
      ∙ rest_next (plus_times at s powers first old i d) (get_or powers i 0) b (get_or doubled d 0))

  pub owing_end : (b most : ℕ) (column new : List ℕ) → ((i : ℕ) → i < count → get_or powers i 0 ≤ most) → most / 2 ^ b < 2
      → Patch at count s n (owed at s powers first old b column) old new → Patch at count s n (plus_times at s powers first old) old new
  owing_end b most column new all few w =
      patch_as at count s n (owed at s powers first old b column) old (plus_times at s powers first old) new w
      (λ i d h l. rest_none (plus_times at s powers first old i d) (get_or powers i 0 / 2 ^ b) (double (get_or column d 0))
      (no_more (get_or powers i 0) most b (all i h) few))
