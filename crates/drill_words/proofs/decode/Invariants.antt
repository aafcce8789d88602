use mathlib.Core.Path.{◌≡◌}
use Prim.Native.Nat.{◌*◌}
use lib.ListN.{drop}
use Rattle.octets.specs.Bytes.{put}
use Rattle.drill_words.specs.Numbers.{from_hex}
use Rattle.drill_words.proofs.decode.Given as goal

abbrev pub invariant-loop-i : goal.invariant-loop-i
invariant-loop-i l = put l.i (from_hex (drop (2 * l.i) l.w)) l.out ≡ put 0 (from_hex l.w) l.initial.out
