-- `code_through::attach` meets its contract. The loop's invariant: before j the row is as it was, from there to i it is done, the rest is as it was.
-- Assumes nothing.
use mathlib.Core.Path.{◌≡◌}
use mathlib.Core.List.{List}
use Prim.Native.Nat.{ℕ, ◌+◌, ◌<◌, ◌≤◌}
use lib.ListN.{length, get_or}
use Rattle.field.specs.Field.{add, mul}
use Rattle.octets.proofs.Walk.{Walked}
use Rattle.code_through.proofs.attach.Given as goal

-- s is what stands at k in the end
pub record New (x : ℕ) (old : List ℕ) (j k s : ℕ) : Type 0 where
  pub kept : k < j → s ≡ get_or old k 0
  pub each : j ≤ k → s ≡ add (get_or old k 0) (mul x (get_or old (k + 1) 0))

abbrev pub invariant-loop-i : goal.invariant-loop-i
invariant-loop-i l = (l.j ≤ l.i) × (l.i < length l.row) × Walked (New l.x l.initial.row l.j) l.initial.row l.i l.row
