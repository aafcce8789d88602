-- What rebuilding answers and leaves, for every input: document 01, "Rebuilding: 1, 2, 4, 7, 10, 11".
use Rattle.std.specs.Prelude.{◌≡◌, Bool, not, ◌&&◌, ◌||◌, List, ℕ, zero, suc, ◌+◌, ◌*◌, ◌/◌, ◌^◌, eqb, leb, ltb, length}
use Rattle.std.specs.Int.Count.{ones}
use Rattle.octets.specs.Bytes.{pick, put, two_at}
use Rattle.octets.specs.Sets.{has, some}
use Rattle.table.specs.Table.{limits, k_of, s_max}
use Rattle.table.specs.declared.Table.{Table}
use Rattle.code_through.specs.Rebuild.{Agrees}
use Rattle.refusal.specs.Answers.{sized}
use Rattle.refusal.specs.declared.Sized.{Sized}

-- the length given for board i + 1
abbrev pub length_at : List ℕ → ℕ → ℕ
length_at lengths i = two_at lengths (2 * i)

-- the first of a, a + 1 .. (m of them) of which P holds; a + m if none
unfoldable pub first_of : (ℕ → Bool) → ℕ → ℕ → ℕ
first_of P a zero = a
first_of P a (suc m) = pick (P a) a (first_of P (a + 1) m)

-- the length of the lowest marked fragment
unfoldable pub common_length : ℕ → ℕ → List ℕ → ℕ
common_length n marked lengths = length_at lengths (first_of (has marked) 0 n)

-- some marked length is not from lo to hi
unfoldable pub some_outside : ℕ → ℕ → ℕ → ℕ → List ℕ → Bool
some_outside n lo hi marked lengths = some (λ i. has marked i && not (leb lo (length_at lengths i) && leb (length_at lengths i) hi)) 0 n

-- "a marked one longer than s_max, or a marked length 0"
abbrev pub bad_length : ℕ → ℕ → ℕ → List ℕ → Bool
bad_length n most marked lengths = some_outside n 1 most marked lengths

-- "marked lengths differ"
abbrev pub lengths_differ : ℕ → ℕ → List ℕ → Bool
lengths_differ n marked lengths = some_outside n (common_length n marked lengths) (common_length n marked lengths) marked lengths

-- "a lent buffer shorter than needed": two bytes a board, n × s_max, k × s_max
unfoldable pub too_short : ℕ → ℕ → ℕ → ℕ → ℕ → ℕ → Bool
too_short n k most lengths area out = ltb lengths (2 * n) || (ltb area (n * most) || ltb out (k * most))

-- 7, then "fewer than k fragments marked", then "marked lengths differ"
unfoldable pub by_lengths : ℕ → ℕ → ℕ → ℕ → List ℕ → ℕ
by_lengths n k most marked lengths =
    pick (bad_length n most marked lengths) 7
    (pick (ltb (ones marked) k) 10
    (pick (lengths_differ n marked lengths) 11 0))

-- the first refusal that applies before a block is looked for, or 0
unfoldable pub rebuild_refusal : Table → ℕ → List ℕ → List ℕ → List ℕ → ℕ
rebuild_refusal b marked lengths area out =
    pick (not (limits b)) 1
    (pick (too_short b.n (k_of b) (s_max b) (length lengths) (length area) (length out)) 2
    (pick (not (eqb (marked / 2 ^ b.n) 0)) 4
    (by_lengths b.n (k_of b) (s_max b) marked lengths)))

-- d is a block whose fragments are all those marked
abbrev pub Fits : Table → ℕ → List ℕ → List ℕ → List ℕ → Type 0
Fits b marked lengths area d = Agrees b.n (k_of b) (s_max b) (common_length b.n marked lengths) marked area d

-- the answer r, and the block's buffer, `out` before the call and `out'` after it
pub record Rebuilds (b : Table) (marked : ℕ) (lengths area out : List ℕ) (r : Sized) (out' : List ℕ) : Type 0 where
  pub refused : (q : ℕ) → rebuild_refusal b marked lengths area out ≡ suc q → (r ≡ sized (suc q) 0) × (out' ≡ out)
  pub found : rebuild_refusal b marked lengths area out ≡ 0 → (d : List ℕ) → Fits b marked lengths area d
      → (r ≡ sized 0 (length d)) × (out' ≡ put 0 d out)
  pub none : rebuild_refusal b marked lengths area out ≡ 0 → ((d : List ℕ) → Fits b marked lengths area d → ⊥)
      → (r ≡ sized 11 0) × (out' ≡ out)
