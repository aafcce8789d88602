-- Strings of bytes: the test that a reader makes, and what it says.
-- Assumes nothing.
use Prim.Native.Nat.{ℕ}
use mathlib.Core.Path.{◌≡◌, refl}
use mathlib.Core.Bool.{true}
use mathlib.Core.List.{List, [], ◌∷◌}
use borrow.Author.Tests.{lt-ltb, ltb-true}
use lib.Dec.{ltb}
use Rattle.octets.proofs.Picks.{and_on, and_l, and_r}
use Rattle.code.specs.Code.{All, Byte}
use Rattle.line.specs.Bytes.{bytes}

pub all_bytes : (s : List ℕ) → All Byte s → bytes s ≡ true
unfolding bytes
all_bytes [] h = refl
all_bytes (x ∷ s) h = and_on (ltb x 256) (bytes s) (lt-ltb x 256 h.0) (all_bytes s h.1)

pub bytes_all : (s : List ℕ) → bytes s ≡ true → All Byte s
unfolding bytes
bytes_all [] e = tt
bytes_all (x ∷ s) e = (ltb-true x 256 (and_l (ltb x 256) (bytes s) e), bytes_all s (and_r (ltb x 256) (bytes s) e))
