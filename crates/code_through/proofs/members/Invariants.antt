-- `code_through::members` meets its contract. The loop's invariant: m boards below i are listed, and the rest of the set has the others.
-- Assumes nothing.
use mathlib.Core.Path.{◌≡◌}
use mathlib.Core.List.{◌++◌}
use Prim.Native.Nat.{◌+◌, ◌-◌, ◌≤◌}
use lib.ListN.{length, take}
use Rattle.code_through.specs.Through.{marks}
use Rattle.code_through.proofs.members.Given as goal

abbrev pub invariant-loop-i : goal.invariant-loop-i
invariant-loop-i l = (l.m ≤ l.i) × (l.i ≤ l.n) × (length l.out ≡ length l.initial.out) × (marks 1 l.n l.set ≡ take l.m l.out ++ marks (l.i + 1) (l.n - l.i) l.rest)
