-- What the hash answers for every string: document 01, "Hash: 15".
use Rattle.std.specs.Prelude.{◌≡◌, List, ℕ, Result, Ok, Err, ltb, length, replicate}
use Rattle.octets.specs.Bytes.{pick}
use Rattle.sha256.specs.Sha256.{sha256}
use Rattle.refusal.specs.declared.Refusal.{Refusal}
use Rattle.refusal.specs.Numbers.{number_of}
use Rattle.code_calls.specs.declared.Digest.{Digest}

-- more than 65,536 bytes: 15 and zeros
unfoldable pub hash_of : List ℕ → Digest
hash_of m =
    pick (ltb 65536 (length m)) (record { number = 15; bytes = replicate 32 0 })
    (record { number = 0; bytes = sha256 m })

-- what C is given of a hash, or of why there is none
abbrev pub digest_of : Result (List ℕ) Refusal → Digest
digest_of (Ok d) = record { number = 0; bytes = d }
digest_of (Err r) = record { number = number_of r; bytes = replicate 32 0 }

abbrev pub Digests : Result (List ℕ) Refusal → Digest → Type 0
Digests r x = x ≡ digest_of r
