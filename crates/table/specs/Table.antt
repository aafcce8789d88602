-- Document 01, "The table of boards": n, t, the sender S and the longest message L; what follows from them.
use Rattle.std.specs.Prelude.{ℕ, ◌+◌, ◌-◌, ◌*◌, ◌/◌, Bool, ◌&&◌, leb, ltb}
use Rattle.table.specs.declared.Table.{Table}

-- n from 1 to 64; 3t < n; S from 1 to n; L at most 16,384
unfoldable pub limits : Table → Bool
limits b =
    leb 1 b.n && (leb b.n 64 && (ltb (3 * b.t) b.n && (leb 1 b.sender && (leb b.sender b.n
    && leb b.longest 16384))))

-- "n boards numbered 1 to n": whether i is the number of a board. At a start and in a state it is one of the limits of the own number
unfoldable pub is_board : Table → ℕ → Bool
is_board b i = leb 1 i && leb i b.n

-- k = n - 2t: so many fragments give a block back
abbrev pub k_of : Table → ℕ
k_of b = b.n - 2 * b.t

-- s_max, the longest fragment: (L + 4) / k rounded up
unfoldable pub s_max : Table → ℕ
s_max b = (b.longest + 4 + (k_of b - 1)) / k_of b

-- the quorums: so many echoes or votes of one root, n - t; and so many votes, t + 1
abbrev pub most_of : Table → ℕ
most_of b = b.n - b.t

-- t + 1
abbrev pub some_of : Table → ℕ
some_of b = b.t + 1
