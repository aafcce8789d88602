-- Working definitions of sums by the bits of the weights.
-- Assumes nothing.
use Rattle.std.specs.Prelude.{◌≡◌, List, ℕ, ◌+◌, ◌*◌, ◌/◌, ◌%◌, ◌^◌, ◌<◌, ◌≤◌, length, get_or}
use Rattle.code_sum.specs.Sums.{cell, InArea, total, weighed}

-- bytes c, c + 1, .. , n of them, of each of the fragments xs lie in an area of the size, and each fragment has a weight
abbrev pub Weighable : ℕ → ℕ → List ℕ → List ℕ → ℕ → ℕ → Type 0
Weighable size s xs ws c n = InArea size s xs × (s ≤ 16388) × (c + n ≤ s) × (length ws ≡ length xs)

-- the first n bytes are bytes c, c + 1, .. of the fragments xs, each times its weight, added up
abbrev pub Summed : List ℕ → ℕ → List ℕ → List ℕ → ℕ → ℕ → List ℕ → Type 0
Summed area s xs ws c n sum = (i : ℕ) → i < n → get_or sum i 0 ≡ weighed area s xs ws (c + i) (length xs)

-- no weight has a bit from b on
abbrev pub Low : ℕ → List ℕ → Type 0
Low b ws = (j : ℕ) → j < length ws → get_or ws j 0 < 2 ^ b

-- byte c of those of the first n of the fragments xs whose weights have bit b, added up
unfoldable pub picked : List ℕ → ℕ → List ℕ → List ℕ → ℕ → ℕ → ℕ → ℕ
picked area s xs ws b c n = total (λ j. get_or ws j 0 / 2 ^ b % 2 * cell area s c (get_or xs j 0)) n
