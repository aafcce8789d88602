-- Bytes in a buffer: a choice by a test, numbers high byte first, a part, a run of bytes put in, strings put in at equal distances.
use Rattle.std.specs.Prelude.{ℕ, zero, suc, ◌+◌, ◌*◌, ◌/◌, ◌%◌, List, [], ◌∷◌, ◌++◌, Bool, true, false, ◌&&◌, get_or, take, drop, eqb}
use Rattle.std.proofs.lemmas.List.Edits.{sets}

-- by a test: the first if it holds, the second if not
unfoldable pub pick {ℓ} : {X : Type ℓ} → Bool → X → X → X
pick true a b = a
pick false a b = b

-- the numbers of two, four and eight bytes at a
abbrev pub two_at : List ℕ → ℕ → ℕ
two_at s a = get_or s a 0 * 256 + get_or s (a + 1) 0

-- four bytes: two numbers of two
unfoldable pub four_at : List ℕ → ℕ → ℕ
four_at s a = two_at s a * 65536 + two_at s (a + 2)

-- eight bytes: two numbers of four
unfoldable pub eight_at : List ℕ → ℕ → ℕ
eight_at s a = four_at s a * 4294967296 + four_at s (a + 4)

-- n as two, four and eight bytes
abbrev pub two : ℕ → List ℕ
two n = n / 256 % 256 ∷ n % 256 ∷ []

-- four bytes: two numbers of two
abbrev pub four : ℕ → List ℕ
four n = two (n / 65536) ++ two (n % 65536)

-- eight bytes: two numbers of four
abbrev pub eight : ℕ → List ℕ
eight n = four (n / 4294967296) ++ four (n % 4294967296)

-- the n bytes of s from a on
unfoldable pub part : ℕ → ℕ → List ℕ → List ℕ
part a n s = take n (drop a s)

-- s with the bytes v from a on
unfoldable pub put : ℕ → List ℕ → List ℕ → List ℕ
put a v s = sets s a v

-- whether two lists are the same
unfoldable pub same : List ℕ → List ℕ → Bool
same [] [] = true
same [] (y ∷ ys) = false
same (x ∷ xs) [] = false
same (x ∷ xs) (y ∷ ys) = eqb x y && same xs ys

-- f 0, f 1, .., f (n - 1)
unfoldable pub tab : ℕ → (ℕ → ℕ) → List ℕ
tab zero f = []
tab (suc n) f = tab n f ++ (f n ∷ [])

-- s with the string f i from i * room on, for each i below n
unfoldable pub place_each : ℕ → ℕ → (ℕ → List ℕ) → List ℕ → List ℕ
place_each zero room f s = s
place_each (suc n) room f s = put (n * room) (f n) (place_each n room f s)
