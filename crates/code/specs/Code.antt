-- Document 01, "Field and fragments": rows, polynomials and fragments.
use Rattle.std.specs.Prelude.{◌≡◌, ◌≢◌, List, [], ◌∷◌, map, ℕ, zero, suc, ◌*◌, ◌/◌, ◌<◌, length, get_or}
use Rattle.octets.specs.Bytes.{part, tab}
use Rattle.field.specs.Field.{add, mul}

-- each element of the list
abbrev pub All : {A : Type 0} → (A → Type 0) → List A → Type 0
All P [] = Unit {0}
All P (x ∷ xs) = P x × All P xs

-- a byte, which is an element of the field
abbrev pub Byte : ℕ → Type 0
Byte b = b < 256

-- no element twice
abbrev pub Apart : List ℕ → Type 0
Apart l = (i j : ℕ) → i < j → j < length l → get_or l i 0 ≢ get_or l j 0

-- "A row is a polynomial, lowest power first": its value at x
unfoldable pub value : List ℕ → ℕ → ℕ
value [] x = 0
value (c ∷ cs) x = add c (mul x (value cs x))

-- "Cut it into rows of k bytes": row c of a block
unfoldable pub row : ℕ → List ℕ → ℕ → List ℕ
row k block c = part (c * k) k block

-- "Byte c of fragment i is row c evaluated at element i"
unfoldable pub fragment_byte : ℕ → List ℕ → ℕ → ℕ → ℕ
fragment_byte k block i c = value (row k block c) i

-- "All n fragments have block length / k bytes"
unfoldable pub fragment_of : ℕ → List ℕ → ℕ → List ℕ
fragment_of k block i = tab (length block / k) (fragment_byte k block i)

-- i, i + 1, .. : n numbers
unfoldable pub numbers_from : ℕ → ℕ → List ℕ
numbers_from i zero = []
numbers_from i (suc n) = i ∷ numbers_from (suc i) n

-- the second edition of the code (document 02, request 11): p is the polynomial of degree below k whose values at 1 .. k are the row's bytes
pub record Through (r p : List ℕ) : Type 0 where
  pub size : length p ≡ length r
  pub bytes : All Byte p
  pub takes : map (value p) (numbers_from 1 (length r)) ≡ r
