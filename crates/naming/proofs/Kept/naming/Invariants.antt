use mathlib.Core.Path.{◌≡◌}
use mathlib.Core.Bool.{◌&&◌}
use Prim.Native.Nat.{◌≤◌, ◌-◌}
use Rattle.octets.specs.Bytes.{same}
use Rattle.octets.specs.Sets.{has, set_of}
use Rattle.naming.specs.Value.{value_of}
use Rattle.naming.proofs.Kept.naming.Given as goal

abbrev pub invariant-loop-i : goal.invariant-loop-i
invariant-loop-i l = (l.i ≤ l.self.n) × (l.found ≡ set_of (λ j. has l.self.set j && same (value_of l.self.p l.self.s.now j) l.v) l.i (l.self.n - l.i))
