-- The block through given fragments: document 01, "A row is a polynomial, lowest power first. Byte c of fragment i is row c evaluated at
-- element i", read backwards, from the bytes of k fragments to the row.
-- Assumes nothing.
use Rattle.std.specs.Prelude.{List, [], ◌∷◌, ◌++◌, map, ℕ, zero, suc, ◌-◌, ◌*◌, ◌/◌, ◌%◌, get_or}
use Rattle.octets.specs.Bytes.{part}
use Rattle.field.specs.Field.{add, mul}
use Rattle.field.specs.Tables.{inverse}

-- x before the list, if the bit is 1
abbrev pub also : ℕ → ℕ → List ℕ → List ℕ
also zero x l = l
also (suc b) x l = x ∷ l

-- "a marked set": of the boards i, i + 1, .. , n in all, those whose bits are set, ascending; board i's bit is the lowest
unfoldable pub marks : ℕ → ℕ → ℕ → List ℕ
marks i zero set = []
marks i (suc n) set = also (set % 2) i (marks (suc i) n (set / 2))

-- the coefficients of y + (X - x) q
unfoldable pub attach : ℕ → ℕ → List ℕ → List ℕ
attach x y [] = y ∷ []
attach x y (d ∷ ds) = add y (mul x d) ∷ attach x d ds

-- the values (v - y) / (z - x) that q takes at the points zs, where y + (X - x) q takes the values vs (`inverse a` times a is 1, `mul_inverse`)
unfoldable pub slopes : ℕ → ℕ → List ℕ → List ℕ → List ℕ
slopes x y [] vs = []
slopes x y (z ∷ zs) [] = []
slopes x y (z ∷ zs) (v ∷ vs) = mul (add v y) (inverse (add z x)) ∷ slopes x y zs vs

-- the coefficients, lowest power first, of the polynomial that takes the values ys at the points xs
unfoldable pub through : List ℕ → List ℕ → List ℕ
through [] ys = []
through (x ∷ xs) [] = []
through (x ∷ xs) (y ∷ ys) = attach x y (through xs (slopes x y xs ys))

-- "A fragment area has n × s_max bytes, fragment i from (i-1) × s_max on": the len bytes of fragment x, in rooms of s bytes
unfoldable pub fragment_in_area : ℕ → ℕ → List ℕ → ℕ → List ℕ
fragment_in_area s len area x = part ((x - 1) * s) len area

-- the block of len rows, one after the other, whose row c goes through byte c of the fragments of the boards xs
unfoldable pub block_through : ℕ → List ℕ → (ℕ → List ℕ) → List ℕ
block_through zero xs fragment = []
block_through (suc c) xs fragment = block_through c xs fragment ++ through xs (map (λ x. get_or (fragment x) c 0) xs)
