-- The block of a message agrees with the fragments of the message, whichever are marked.
-- Assumes nothing.
use mathlib.Core.Path.{◌≡◌, sym, ◌∙◌}
use mathlib.Core.List.{List, ◌++◌}
use Prim.Native.Nat.{ℕ, zero, suc, ◌+◌, ◌-◌, ◌*◌, ◌<◌, ◌≤◌}
use native.Mathlib.Nat as N
use native.Mathlib.Omega.{arith}
use lib.ListN.{length, replicate}
use lib.Seq.{ext_get_or}
use Rattle.octets.specs.Bytes.{part, place_each}
use Rattle.octets.proofs.Laws.{length_part}
use Rattle.octets.proofs.Places.{length_places, place_in}
use Rattle.code.specs.Code.{All, Byte, fragment_of}
use Rattle.code.specs.Block.{header, rows, block}
use Rattle.code.proofs.Blocks.{length_block}
use Rattle.code_through.specs.Rebuild.{Agrees}
use Rattle.octets.proofs.Parts.{get_d_part}
use Rattle.code.proofs.Lists.{all_append}
use Rattle.code_through.proofs.Agree.{length_fragment}

bytes_header : (m : ℕ) → All Byte (header m)
unfolding header
bytes_header m = (omega arith, (omega arith, (omega arith, (omega arith, tt))))

bytes_zeros : (n : ℕ) → All Byte (replicate n 0)
bytes_zeros zero = tt
bytes_zeros (suc n) = (omega arith, bytes_zeros n)

pub bytes_block : (k : ℕ) (msg : List ℕ) → All Byte msg → All Byte (block k msg)
unfolding block
bytes_block k msg h =
    all_append Byte (header (length msg) ++ msg) (replicate (rows k (length msg) * k - (4 + length msg)) 0)
    (all_append Byte (header (length msg)) msg (bytes_header (length msg)) h) (bytes_zeros (rows k (length msg) * k - (4 + length msg)))

module _ (n k s marked : ℕ) (msg old : List ℕ) (pos : 0 < k) (bytes : All Byte msg) (low : rows k (length msg) ≤ s) (room : n * s ≤ length old) where
  fragment : ℕ → List ℕ
  fragment i = fragment_of k (block k msg) (suc i)

  pub encoded_agrees : Agrees n k s (rows k (length msg)) marked (place_each n s (λ i. fragment_of k (block k msg) (suc i)) old) (block k msg)
  unfolding fragment
  encoded_agrees = record {
    size = length_block k pos msg;
    bytes = bytes_block k msg bytes;
    same = λ i h m.
        let area = place_each n s fragment old in
        let r = rows k (length msg) in
        let z = length_part (i * s) r area (omega (arith, N.mul-le-mul_right s h, length_places s fragment old n)) in
        ext_get_or 0 (fragment i) (part (i * s) r area) (size i ∙ sym z)
        (λ d g. sym (get_d_part (i * s) r d area (omega (arith, size i)) ∙ place_in s fragment old fits n i d h g room));
  }
    where
      size : (i : ℕ) → length (fragment_of k (block k msg) (suc i)) ≡ rows k (length msg)
      size i = length_fragment k (rows k (length msg)) pos (block k msg) (length_block k pos msg) (suc i)

      fits : (i : ℕ) → length (fragment_of k (block k msg) (suc i)) ≤ s
      fits i = omega (arith, size i)
