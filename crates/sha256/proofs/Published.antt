-- Facts about the definitions, computed: three published examples of SHA-256, and where the tables come from.
-- Assumes nothing.
use Rattle.std.proofs.Common.{◌≡◌, ℕ, zero, suc, ◌+◌, ◌*◌, ◌^◌, Bool, true, false, ◌&&◌, ◌||◌, ltb, leb, List, [], ◌∷◌, refl}
use Rattle.octets.specs.Bytes.{pick, part, tab}
use Rattle.sha256.specs.Words.{◌⊞◌, not32, shr, rotr, ch, maj, Σ₀, Σ₁, σ₀, σ₁}
use Rattle.sha256.specs.Tables.{K, H0}
use Rattle.sha256.specs.Sha256.{word_at, expand, next_word, words, T₁, T₂, round, rounds, sums, compress, byte_of, pad_zeros, pad, block_at, chain, digest, sha256}

-- the empty message
pub none : sha256 ([]) ≡ 227 ∷ 176 ∷ 196 ∷ 66 ∷ 152 ∷ 252 ∷ 28 ∷ 20 ∷ 154 ∷ 251 ∷ 244 ∷ 200 ∷ 153 ∷ 111 ∷ 185 ∷ 36 ∷ 39 ∷ 174 ∷ 65 ∷ 228 ∷ 100 ∷ 155 ∷ 147 ∷ 76 ∷ 164 ∷ 149 ∷ 153 ∷ 27 ∷ 120 ∷ 82 ∷ 184 ∷ 85 ∷ []
unfolding pick part ◌⊞◌ not32 shr rotr ch maj Σ₀ Σ₁ σ₀ σ₁ K H0 tab word_at expand next_word words T₁ T₂ round rounds sums compress byte_of pad_zeros pad block_at chain digest sha256
none = refl

-- "abc"
pub abc : sha256 (97 ∷ 98 ∷ 99 ∷ []) ≡ 186 ∷ 120 ∷ 22 ∷ 191 ∷ 143 ∷ 1 ∷ 207 ∷ 234 ∷ 65 ∷ 65 ∷ 64 ∷ 222 ∷ 93 ∷ 174 ∷ 34 ∷ 35 ∷ 176 ∷ 3 ∷ 97 ∷ 163 ∷ 150 ∷ 23 ∷ 122 ∷ 156 ∷ 180 ∷ 16 ∷ 255 ∷ 97 ∷ 242 ∷ 0 ∷ 21 ∷ 173 ∷ []
unfolding pick part ◌⊞◌ not32 shr rotr ch maj Σ₀ Σ₁ σ₀ σ₁ K H0 tab word_at expand next_word words T₁ T₂ round rounds sums compress byte_of pad_zeros pad block_at chain digest sha256
abc = refl

-- "abcdbcdecdefdefgefghfghighijhijkijkljklmklmnlmnomnopnopq"
pub two_blocks : sha256 (97 ∷ 98 ∷ 99 ∷ 100 ∷ 98 ∷ 99 ∷ 100 ∷ 101 ∷ 99 ∷ 100 ∷ 101 ∷ 102 ∷ 100 ∷ 101 ∷ 102 ∷ 103 ∷ 101 ∷ 102 ∷ 103 ∷ 104 ∷ 102 ∷ 103 ∷ 104 ∷ 105 ∷ 103 ∷ 104 ∷ 105 ∷ 106 ∷ 104 ∷ 105 ∷ 106 ∷ 107 ∷ 105 ∷ 106 ∷ 107 ∷ 108 ∷ 106 ∷ 107 ∷ 108 ∷ 109 ∷ 107 ∷ 108 ∷ 109 ∷ 110 ∷ 108 ∷ 109 ∷ 110 ∷ 111 ∷ 109 ∷ 110 ∷ 111 ∷ 112 ∷ 110 ∷ 111 ∷ 112 ∷ 113 ∷ []) ≡ 36 ∷ 141 ∷ 106 ∷ 97 ∷ 210 ∷ 6 ∷ 56 ∷ 184 ∷ 229 ∷ 192 ∷ 38 ∷ 147 ∷ 12 ∷ 62 ∷ 96 ∷ 57 ∷ 163 ∷ 60 ∷ 228 ∷ 89 ∷ 100 ∷ 255 ∷ 33 ∷ 103 ∷ 246 ∷ 236 ∷ 237 ∷ 212 ∷ 25 ∷ 219 ∷ 6 ∷ 193 ∷ []
unfolding pick part ◌⊞◌ not32 shr rotr ch maj Σ₀ Σ₁ σ₀ σ₁ K H0 tab word_at expand next_word words T₁ T₂ round rounds sums compress byte_of pad_zeros pad block_at chain digest sha256
two_blocks = refl

-- the first 64 primes
pub primes : List ℕ
primes = 2 ∷ 3 ∷ 5 ∷ 7 ∷ 11 ∷ 13 ∷ 17 ∷ 19 ∷ 23 ∷ 29 ∷ 31 ∷ 37 ∷ 41 ∷ 43 ∷ 47 ∷ 53 ∷ 59 ∷ 61 ∷ 67 ∷ 71 ∷ 73 ∷ 79 ∷ 83 ∷ 89 ∷ 97 ∷ 101 ∷ 103 ∷ 107 ∷ 109 ∷ 113 ∷ 127 ∷ 131 ∷ 137 ∷ 139 ∷ 149 ∷ 151 ∷ 157 ∷ 163 ∷ 167 ∷ 173 ∷ 179 ∷ 181 ∷ 191 ∷ 193 ∷ 197 ∷ 199 ∷ 211 ∷ 223 ∷ 227 ∷ 229 ∷ 233 ∷ 239 ∷ 241 ∷ 251 ∷ 257 ∷ 263 ∷ 269 ∷ 271 ∷ 277 ∷ 281 ∷ 283 ∷ 293 ∷ 307 ∷ 311 ∷ []

-- k is the first 32 bits of the fraction of the n-th root of p, whose whole part is at most q
pub fraction : ℕ → ℕ → ℕ → ℕ → Bool
fraction zero n k p = false
fraction (suc q) n k p =
    (leb ((suc q * 2 ^ 32 + k) ^ n) (p * (2 ^ 32) ^ n) && ltb (p * (2 ^ 32) ^ n) ((suc q * 2 ^ 32 + k + 1) ^ n)) || fraction q n k p

pub each : ℕ → List ℕ → List ℕ → Bool
each n [] ps = true
each n (k ∷ ks) [] = false
each n (k ∷ ks) (p ∷ ps) = fraction 6 n k p && each n ks ps

-- FIPS 180-4, 4.2.2 and 5.3.3: of the cube roots of the first 64 primes, and of the square roots of the first eight
pub round_constants : each 3 K primes ≡ true
unfolding each fraction primes K
round_constants = refl

pub starting_words : each 2 H0 primes ≡ true
unfolding each fraction primes H0
starting_words = refl
