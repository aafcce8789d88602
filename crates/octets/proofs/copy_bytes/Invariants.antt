use mathlib.Core.Path.{◌≡◌}
use Prim.Native.Nat.{◌+◌}
use lib.ListN.{length, drop}
use Rattle.octets.specs.Bytes.{put}
use Rattle.octets.proofs.copy_bytes.Given as goal

abbrev pub invariant-loop-i : goal.invariant-loop-i
invariant-loop-i l = (put (l.at + l.i) (drop l.i l.src) l.dst ≡ put l.at l.src l.initial.dst) × (length l.dst ≡ length l.initial.dst)
