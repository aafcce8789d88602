-- Turns of the loop that writes the bytes of hex.
use mathlib.Core.Path.{◌≡◌}
use Prim.Native.Nat.{ℕ, ◌+◌, ◌*◌, ◌/◌, ◌%◌, ◌≤◌, ◌<◌}
use mathlib.Core.List.{List}
use native.Mathlib.Omega.{arith}
use native.Mathlib.Numerals.{add-one}
use lib.ListN.{length, get_or, drop, set, length-drop}
use Rattle.octets.specs.Bytes.{put}
use Rattle.drill_words.specs.Numbers.{hex_digit, from_hex}
use Rattle.drill_words.proofs.Counting.{bytes_turn, bytes_none}

pub decode_turn : (w d : List ℕ) (i x : ℕ) → 2 * i + 1 < length w → x ≡ (hex_digit (get_or w (2 * i) 0) * 16 + hex_digit (get_or w (2 * i + 1) 0)) % 256
    → put i (from_hex (drop (2 * i) w)) d ≡ put (i + 1) (from_hex (drop (2 * (i + 1)) w)) (set d i x)
unfolding put
decode_turn w d i x h e =
    let f : 2 * (i + 1) ≡ 2 * i + 2 = omega arith in
    rw (bytes_turn w (2 * i) h, f, ← e, add-one i)

pub decode_end : (w d : List ℕ) (i : ℕ) → length w / 2 ≤ i → put i (from_hex (drop (2 * i) w)) d ≡ d
unfolding put
decode_end w d i h = rw (bytes_none (drop (2 * i) w) (rw length-drop (omega arith)))
