-- `sha256::expand_rest` meets its contract. Assumes nothing.
use Rattle.std.proofs.Common.{◌≡◌, ℕ, ◌≤◌, List, length, take}
use Rattle.sha256.specs.Sha256.{words}
use Rattle.sha256.proofs.expand_rest.Given as goal

abbrev pub invariant-loop-t : goal.invariant-loop-t
invariant-loop-t l = (16 ≤ l.t) × (l.t ≤ 64) × (length l.w ≡ 64) × ((b : List ℕ) → take 16 l.initial.w ≡ words b 16 → take l.t l.w ≡ words b l.t)
