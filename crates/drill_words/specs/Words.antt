-- Document 01, "The drill program": lines end with LF (10), the last may lack it; words of a line stand one space (32) apart.
use Rattle.std.specs.Prelude.{ℕ, zero, suc, ◌+◌, List, [], ◌∷◌, eqb}
use Rattle.octets.specs.Bytes.{pick}
use Rattle.octets.specs.Sets.{bit}

-- the bytes before the first c, all of them if there is none
unfoldable pub upto : ℕ → List ℕ → List ℕ
upto c [] = []
upto c (x ∷ xs) = pick (eqb x c) [] (x ∷ upto c xs)

-- the bytes after the first c
unfoldable pub past : ℕ → List ℕ → List ℕ
past c [] = []
past c (x ∷ xs) = pick (eqb x c) xs (past c xs)

-- how many bytes are c; a line has a word more than spaces
unfoldable pub how_many : ℕ → List ℕ → ℕ
how_many c [] = 0
how_many c (x ∷ xs) = bit (eqb x c) + how_many c xs

-- a line without its first i words
unfoldable pub skip : ℕ → List ℕ → List ℕ
skip zero l = l
skip (suc i) l = skip i (past 32 l)

-- word i, counted from 0: no bytes if there is none
unfoldable pub word : ℕ → List ℕ → List ℕ
word i l = upto 32 (skip i l)
