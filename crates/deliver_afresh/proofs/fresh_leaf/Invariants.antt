-- `deliver_afresh::fresh_leaf` meets its contract. The loop's invariant: h is the chaining words after j blocks.
-- Assumes nothing.
use mathlib.Core.Path.{◌≡◌}
use mathlib.Core.List.{List, ◌∷◌}
use Prim.Native.Nat.{ℕ, ◌≤◌}
use lib.ListN.{length}
use Rattle.sha256.specs.Sha256.{pad, chain}
use Rattle.deliver_afresh.specs.Working.{Leaf}
use Rattle.deliver_afresh.proofs.fresh_leaf.Given as goal

abbrev pub invariant-loop-j : goal.invariant-loop-j
invariant-loop-j l = (l.j ≤ l.count) × (length l.buffer ≡ 64) × (length l.h ≡ 8) × ((f : List ℕ) → Leaf l.kept.area.now l.kept.s l.kept.points.now l.ws l.v l.len f → l.h ≡ chain l.j (pad (0 ∷ f)))
