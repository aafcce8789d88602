use Prim.Native.Nat.{◌≤◌, ◌-◌}
use mathlib.Core.Path.{◌≡◌}
use Rattle.octets.specs.Sets.{has}
use Rattle.code_calls.specs.Rebuilding.{first_of}
use Rattle.code_calls.proofs.first_marked.Given as goal

abbrev pub invariant-loop-i : goal.invariant-loop-i
invariant-loop-i l = (l.i ≤ l.n) × (first_of (has l.marked) 0 l.n ≡ first_of (has l.marked) l.i (l.n - l.i))
