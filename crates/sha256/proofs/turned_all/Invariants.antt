-- `sha256::turned_all` meets its contract. Assumes nothing.
use Rattle.std.proofs.Common.{◌≡◌, ◌*◌, ◌≤◌}
use Rattle.sha256.specs.Sha256.{rounds}
use Rattle.sha256.proofs.turned_all.Given as goal

abbrev pub invariant-loop-q : goal.invariant-loop-q
invariant-loop-q l = (l.q ≤ 8) × (l.s ≡ rounds l.w (8 * l.q) l.initial.s)
