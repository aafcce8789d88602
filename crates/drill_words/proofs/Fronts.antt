-- What was put at the front of a buffer stands there.
use mathlib.Core.Path.{◌≡◌, sym, ◌∙◌}
use Prim.Native.Nat.{ℕ, ◌/◌, ◌≤◌}
use mathlib.Core.List.{List}
use native.Mathlib.Omega.{arith}
use lib.ListN.{length, take}
use Rattle.octets.specs.Bytes.{part, put}
use Rattle.octets.proofs.Frame.{part_in}
use Rattle.drill_words.specs.Numbers.{from_hex}
use Rattle.drill_words.proofs.Counting.{bytes_length}

pub front : (n : ℕ) (v s new : List ℕ) → n ≡ length v → length v ≤ length s → new ≡ put 0 v s → take n new ≡ v
unfolding part
front n v s new e h p = rw (e, p) (part_in 0 v s (omega arith))

-- the raw bytes of a word
pub raw_front : (n : ℕ) (w s new : List ℕ) → n ≡ length w / 2 → length w / 2 ≤ length s → new ≡ put 0 (from_hex w) s → take n new ≡ from_hex w
raw_front n w s new e h p =
    let l = bytes_length w in
    front n (from_hex w) s new (e ∙ sym l) (omega arith) p
