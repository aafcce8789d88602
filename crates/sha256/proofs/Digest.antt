-- A hash is 32 bytes.
-- Assumes nothing.
use Rattle.std.proofs.Common.{◌≡◌, ℕ, ◌/◌, ◌%◌, ◌<◌, List, length, get_or, ⊎_elim, mod-lt, arith}
use lib.ListN.{get_or-eq_default}
use Rattle.octets.proofs.Walk.{lt_or_le}
use Rattle.octets.proofs.Tables.{length_tab, get_d_tab}
use Rattle.sha256.specs.Sha256.{byte_of, chain, pad, digest, sha256}

pub digest_length : (h : List ℕ) → length (digest h) ≡ 32
unfolding digest
digest_length h = length_tab 32 _

pub sha256_length : (m : List ℕ) → length (sha256 m) ≡ 32
unfolding sha256
sha256_length m = digest_length _

byte_small : (n x j : ℕ) → byte_of n x j < 256
unfolding byte_of
byte_small n x j = mod-lt _ (omega arith)

digest_bytes : (h : List ℕ) (i : ℕ) → i < 32 → get_or (digest h) i 0 < 256
unfolding digest
digest_bytes h i lt = rw (get_d_tab 32 (λ j. byte_of 4 (get_or h (j / 4) 0) (j % 4)) i lt) (byte_small 4 (get_or h (i / 4) 0) (i % 4))

hash_bytes : (m : List ℕ) (i : ℕ) → i < 32 → get_or (sha256 m) i 0 < 256
unfolding sha256
hash_bytes m i lt = digest_bytes (chain (length (pad m) / 64) (pad m)) i lt

-- (a list reads as 0 past its end)
pub sha256_bytes : (m : List ℕ) (i : ℕ) → get_or (sha256 m) i 0 < 256
sha256_bytes m i =
    ⊎_elim (λ lt. hash_bytes m i lt)
    (λ ge. rw (get_or-eq_default (sha256 m) 0 {n = i} (rw (sha256_length m) ge)) (omega arith))
    (lt_or_le i 32)
