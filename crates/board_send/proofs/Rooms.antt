-- Fragments worked out in one room, one after the other.
-- Assumes nothing.
use mathlib.Core.Path.{◌≡◌, refl, sym, ap, ◌∙◌}
use mathlib.Core.List.{List}
use Prim.Native.Nat.{ℕ, ◌+◌, ◌<◌, ◌≤◌}
use native.Mathlib.Omega.{arith}
use lib.ListN.{length}
use Rattle.octets.specs.Bytes.{put}
use Rattle.table.proofs.Within.{ceil_le}
use Rattle.code.specs.Block.{rows}
use Rattle.board_send.specs.Laying.{Alike}
use Rattle.octets.proofs.Puts.{put_over}

pub alike_start : (at len : ℕ) (s : List ℕ) → Alike at len s s
alike_start at len s = record { same = λ f h. refl }

-- one more fragment worked out
pub alike_next : (at len : ℕ) (f s r new : List ℕ) → length f ≡ len → new ≡ put at f s → Alike at len s r → Alike at len new r
alike_next at len f s r new size e a = record { same = λ g h. ap (put at g) e ∙ put_over g f s at (h ∙ sym size) ∙ a.same g h }

-- a fragment of a message of at most 16,384 bytes has at most 16,388
pub rows_few : (k m : ℕ) → 0 < k → m ≤ 16384 → rows k m ≤ 16388
unfolding rows
rows_few k m some short = omega (arith, ceil_le (m + 4) k some)
