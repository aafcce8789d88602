-- Buffers of zeros: what they hold, and how one is made.
use mathlib.Core.Path.{◌≡◌, sym, ◌∙◌}
use Prim.Native.Nat.{ℕ, ◌+◌, ◌*◌, ◌≤◌, ◌<◌}
use mathlib.Core.List.{List, []}
use mathlib.Core.Logic.{⊎_elim}
use native.Mathlib.Omega.{arith}
use lib.ListN.{length, get_or, replicate, length-replicate, get_or-replicate, get_or-eq_default}
use Rattle.octets.specs.Bytes.{pick, part, put, two_at}
use Rattle.octets.proofs.Laws.{length_put, length_part}
use Rattle.octets.proofs.Parts.{part_all, get_d_part}
use Rattle.octets.proofs.Frame.{part_in}
use Rattle.octets.proofs.Walk.{lt_or_le}
use lib.Seq.{ext_get_or}
use Rattle.drill_boards.specs.Held.{zeros}
use Rattle.drill_boards.specs.Room.{slot_length, slot}

-- bytes put over all of a buffer
pub put_whole : (v s : List ℕ) → length v ≡ length s → put 0 v s ≡ v
put_whole v s e = sym (part_all (length v) (put 0 v s) (length_put 0 v s ∙ sym e)) ∙ part_in 0 v s (omega arith)

pub cleared_whole : (n : ℕ) (s new : List ℕ) → length s ≡ n → new ≡ put 0 (replicate n 0) s → new ≡ zeros n
unfolding zeros
cleared_whole n s new l e = e ∙ put_whole (replicate n 0) s (length-replicate n 0 ∙ sym l)

pub zeros_length : (n : ℕ) → length (zeros n) ≡ n
unfolding zeros
zeros_length n = length-replicate n 0

zero_at : (n i : ℕ) → ◌≡◌ {A = ℕ} (get_or (zeros n) i 0) 0
unfolding zeros
zero_at n i = ⊎_elim (λ h. get_or-replicate n i 0 0 h) (λ h. get_or-eq_default (replicate n 0) 0 (rw length-replicate h)) (lt_or_le i n)

-- a slot of zeros holds nothing
pub slot_zero : (n j : ℕ) → slot j (zeros n) ≡ []
unfolding slot slot_length pick part
slot_zero n j =
    let e : two_at (zeros n) (j * 1024) ≡ 0 = rw (zero_at n (j * 1024), zero_at n (j * 1024 + 1)) in
    rw e

-- a part of zeros
pub part_zero : (n a m : ℕ) → a + m ≤ n → part a m (zeros n) ≡ zeros m
part_zero n a m h =
    let l : length (part a m (zeros n)) ≡ m = length_part a m (zeros n) (rw zeros_length h) in
    ext_get_or 0 (part a m (zeros n)) (zeros m) (l ∙ sym (zeros_length m))
    (λ i k. let q : i < m = omega arith in get_d_part a m i (zeros n) q ∙ zero_at n (a + i) ∙ sym (zero_at m i))
