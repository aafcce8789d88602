-- The chaining from any eight words on, as the loop over the blocks goes. `proofs/Blocks.antt` shows that from H0 on it is FIPS 180-4's.
use Rattle.std.specs.Prelude.{ℕ, zero, suc, List}
use Rattle.sha256.specs.Sha256.{compress, block_at}

-- the chaining words after the first n blocks of p, from h on
unfoldable pub chain_from : List ℕ → ℕ → List ℕ → List ℕ
chain_from h zero p = h
chain_from h (suc n) p = compress (chain_from h n p) (block_at n p)
