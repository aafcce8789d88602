-- `sha256_strings::put_digest` meets its contract. The loop's invariant: the bytes of the first i words are put in.
-- Assumes nothing.
use mathlib.Core.Path.{◌≡◌}
use mathlib.Core.List.{List}
use Prim.Native.Nat.{ℕ, ◌*◌, ◌/◌, ◌%◌}
use lib.ListN.{length, get_or}
use Rattle.octets.specs.Bytes.{tab, put}
use Rattle.sha256.specs.Sha256.{byte_of}
use Rattle.sha256_strings.proofs.put_digest.Given as goal

abbrev pub byte_at : List ℕ → ℕ → ℕ
byte_at h j = byte_of 4 (get_or h (j / 4) 0) (j % 4)

abbrev pub invariant-loop-i : goal.invariant-loop-i
invariant-loop-i l = (length l.out ≡ length l.initial.out) × (l.out ≡ put l.at (tab (4 * l.i) (byte_at l.h)) l.initial.out)
