use mathlib.Core.Path.{◌≡◌}
use Prim.Native.Nat.{◌≤◌, ◌-◌}
use lib.ListN.{length}
use Rattle.mailbox.specs.Items.{complete, framed}
use Rattle.mailbox.proofs.is_framed.Given as goal

abbrev pub invariant-loop-i : goal.invariant-loop-i
invariant-loop-i l = (l.i ≤ l.count) × (l.at ≤ length l.mailbox) × (complete (l.count - l.i) l.at l.mailbox ≡ framed l.mailbox)
