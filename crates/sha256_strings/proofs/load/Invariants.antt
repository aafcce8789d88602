-- `sha256_strings::load` meets its contract. Assumes nothing.
use Prim.Native.Nat.{◌≤◌, ◌+◌, ◌-◌, ◌*◌}
use mathlib.Core.Path.{◌≡◌}
use mathlib.Core.List.{◌++◌}
use lib.ListN.{length, take}
use Rattle.octets.specs.Bytes.{tab, four_at}
use Rattle.sha256.specs.Sha256.{pad}
use Rattle.sha256_strings.proofs.load.Given as goal

abbrev pub invariant-loop-t : goal.invariant-loop-t
invariant-loop-t l = (l.t ≤ 16) × (length l.w ≡ 64) × (take l.t l.w ≡ tab l.t (λ j. four_at (pad (l.head ++ l.body)) (l.at + 4 * j)))

abbrev pub decreases-loop-t : goal.decreases-loop-t
decreases-loop-t l = 16 - l.t
