-- `sha256_strings::absorb` meets its contract. Assumes nothing.
use Prim.Native.Nat.{◌≤◌, ◌/◌, ◌%◌}
use mathlib.Core.Path.{◌≡◌}
use mathlib.Core.List.{◌++◌}
use Rattle.sha256.specs.Sha256.{pad}
use Rattle.sha256.specs.Chain.{chain_from}
use Rattle.sha256_strings.proofs.absorb.Given as goal

abbrev pub invariant-loop-at : goal.invariant-loop-at
invariant-loop-at l = (l.at ≤ l.end) × (l.at % 64 ≡ 0) × (l.h ≡ chain_from l.initial.h (l.at / 64) (pad (l.head ++ l.body)))
