-- `sha256_strings::load_inside` meets its contract. Assumes nothing.
use Prim.Native.Nat.{ℕ, ◌≤◌, ◌<◌, ◌+◌, ◌*◌}
use mathlib.Core.Path.{◌≡◌}
use lib.ListN.{length, take}
use Rattle.octets.specs.Bytes.{tab, four_at}
use Rattle.sha256_strings.proofs.load_inside.Given as goal

abbrev pub invariant-loop-i : goal.invariant-loop-i
invariant-loop-i l = (l.t ≤ l.i) × (l.i ≤ l.u) × (length l.w ≡ 64) × ((f : ℕ → ℕ) → ((j : ℕ) → l.t + j < l.u → f (l.t + j) ≡ four_at l.bytes (4 * j)) → take l.t l.initial.w ≡ tab l.t f → take l.i l.w ≡ tab l.i f)
