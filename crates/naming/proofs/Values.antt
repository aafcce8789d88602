-- Values at their places.
-- Assumes nothing.
use mathlib.Core.Path.{◌≡◌, ap, ◌∙◌}
use Prim.Native.Nat.{ℕ, suc, ◌+◌, ◌*◌, ◌≤◌, ◌<◌}
use mathlib.Core.List.{List, ◌∷◌}
use native.Mathlib.Omega.{arith}
use native.Mathlib.Nat.{mul-le-mul_left, mul-suc}
use lib.ListN.{length, get_or}
use Rattle.octets.specs.Bytes.{part}
use Rattle.octets.proofs.Laws.{part_cons}

-- a board's place is among the 64
pub place_in : (room i : ℕ) → i < 64 → room * i + room ≤ room * 64
place_in room i h = omega (arith, mul-suc room i, mul-le-mul_left room (let z : suc i ≤ 64 = omega arith in z))

-- a value that begins with its length: the length, and the bytes after it
pub sized_parts : (s : List ℕ) (a n : ℕ) → a < length s → part a (1 + n) s ≡ get_or s a 0 ∷ part (a + 1) n s
sized_parts s a n h = let e : 1 + n ≡ suc n = omega arith in ap (λ (k : ℕ). part a k s) e ∙ part_cons a n s h
