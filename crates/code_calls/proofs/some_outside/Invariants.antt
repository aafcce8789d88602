use Prim.Native.Nat.{◌≤◌, ◌-◌}
use mathlib.Core.Path.{◌≡◌}
use mathlib.Core.Bool.{not, ◌&&◌}
use lib.Dec.{leb}
use Rattle.octets.specs.Sets.{has, some}
use Rattle.code_calls.specs.Rebuilding.{some_outside, length_at}
use Rattle.code_calls.proofs.some_outside.Given as goal

abbrev pub invariant-loop-i : goal.invariant-loop-i
invariant-loop-i l = (l.i ≤ l.n) × (some_outside l.n l.lo l.hi l.marked l.lengths ≡ some (λ j. has l.marked j && not (leb l.lo (length_at l.lengths j) && leb (length_at l.lengths j) l.hi)) l.i (l.n - l.i))
