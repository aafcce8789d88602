-- A record at the front of the outgoing buffer is the record put out.
use Prim.Native.Nat.{ℕ, ◌≤◌}
use native.Mathlib.Omega.{arith}
use mathlib.Core.Path.{◌≡◌, refl, ap}
use mathlib.Core.List.{List, [], ◌∷◌}
use mathlib.Core.Option.{Option, some, none}
use lib.ListN.{length}
use Rattle.octets.specs.Bytes.{put}
use Rattle.octets.proofs.Frame.{part_in}
use Rattle.line_desk.specs.Desk.{record_in}

-- no bytes are no record
abbrev pub unless_empty : List ℕ → Option (List ℕ)
unless_empty [] = none
unless_empty (x ∷ w) = some (x ∷ w)

pub record_is : (w o : List ℕ) → length w ≤ length o → record_in (length w) (put 0 w o) ≡ unless_empty w
record_is [] o h = refl
record_is (x ∷ w) o h = ap some (part_in 0 (x ∷ w) o (omega arith))
