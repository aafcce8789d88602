-- The boards of a line, and how many of them are in a set.
use Rattle.std.specs.Prelude.{ℕ, zero, suc, ◌+◌, ◌-◌, ◌*◌, ◌≤◌, ◌<◌, Bool, not, ◌&&◌, T, leb, ltb}
use Rattle.octets.specs.Sets.{bit}

-- how many of the boards 1 to n are in p (document 01: "a quorum is a number of ones in such a set")
unfoldable pub count : (ℕ → Bool) → ℕ → ℕ
count p zero = 0
count p (suc n) = bit (p (suc n)) + count p n

-- how many boards bring a vote by their echoes, n-t, or by their votes, t+1 (document 01, "A board's step")
abbrev pub most_boards : ℕ → ℕ → ℕ
most_boards n t = n - t

abbrev pub some_boards : ℕ → ℕ
some_boards t = t + 1

-- document 01: "n boards numbered 1 to n"
pub record Board (n i : ℕ) : Type 0 where
  pub low : 1 ≤ i
  pub high : i ≤ n

-- whether it is (document 01, refusal 4: "board number (from, to, or marked) not in 1..n")
abbrev pub known : ℕ → ℕ → Bool
known n i = ltb 0 i && leb i n

-- The boards in keeps keep the rules. Document 01: "t from 0 with 3t < n", "At most t rule-breakers".
pub record Keepers (n t : ℕ) (keeps : ℕ → Bool) : Type 0 where
  pub third : 3 * t < n
  pub known : (i : ℕ) → T (keeps i) → Board n i
  pub few : count (λ i. not (keeps i)) n ≤ t
