-- Document 01, "The drill program": numbers and hex, read strictly; and how both are printed.
use Rattle.std.specs.Prelude.{ℕ, ◌+◌, ◌-◌, ◌*◌, ◌/◌, ◌%◌, List, [], ◌∷◌, Bool, true, ◌&&◌, ◌||◌, eqb, leb, ltb, length, get_or}
use Rattle.octets.specs.Bytes.{pick}

-- ---- numbers. 10,000 stands for every number of five digits or more, and for what is no number: no limit of a drill is that large

-- v with one more digit
unfoldable pub with_digit : ℕ → ℕ → ℕ
with_digit v x = pick (leb 48 x && (leb x 57 && leb v 999)) (v * 10 + (x - 48)) 10000

-- v with all the digits of a word
unfoldable pub value_of : ℕ → List ℕ → ℕ
value_of v [] = v
value_of v (x ∷ xs) = value_of (with_digit v x) xs

-- digits and nothing else, at least one, no zero in front
unfoldable pub number_of : List ℕ → ℕ
number_of w = pick (eqb (length w) 0 || (eqb (get_or w 0 0) 48 && ltb 1 (length w))) 10000 (value_of 0 w)

-- a number below 10,000 in decimal
abbrev pub digit : ℕ → ℕ
digit n = 48 + n % 10

-- its digits, without a zero in front
unfoldable pub decimal : ℕ → List ℕ
decimal n =
    pick (ltb n 10) (digit n ∷ [])
    (pick (ltb n 100) (digit (n / 10) ∷ digit n ∷ [])
    (pick (ltb n 1000) (digit (n / 100) ∷ digit (n / 10) ∷ digit n ∷ [])
    (digit (n / 1000) ∷ digit (n / 100) ∷ digit (n / 10) ∷ digit n ∷ [])))

-- ---- hex: "hex is lower case"

-- what 0 to 9 and a to f stand for; 16 for every other byte
unfoldable pub hex_digit : ℕ → ℕ
hex_digit x = pick (leb 48 x && leb x 57) (x - 48) (pick (leb 97 x && leb x 102) (x - 87) 16)

unfoldable pub hex_digits : List ℕ → Bool
hex_digits [] = true
hex_digits (x ∷ xs) = ltb (hex_digit x) 16 && hex_digits xs

-- two digits a byte
unfoldable pub is_hex : List ℕ → Bool
is_hex w = hex_digits w && eqb (length w % 2) 0

-- the bytes that hex stands for; of two hex digits the number is below 256 without % 256
unfoldable pub from_hex : List ℕ → List ℕ
from_hex [] = []
from_hex (a ∷ []) = []
from_hex (a ∷ b ∷ xs) = (hex_digit a * 16 + hex_digit b) % 256 ∷ from_hex xs

-- bytes in hex
unfoldable pub letter : ℕ → ℕ
letter d = pick (ltb d 10) (48 + d) (87 + d)

unfoldable pub hex_of : List ℕ → List ℕ
hex_of [] = []
hex_of (b ∷ bs) = letter (b / 16) ∷ letter (b % 16) ∷ hex_of bs
