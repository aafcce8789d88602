-- What is kept of the boards of a set, by their numbers from 1 on; of no other board is anything seen.
use Rattle.std.specs.Prelude.{ℕ, zero, suc, ◌-◌, List, [], Bool, false}
use Rattle.octets.specs.Bytes.{pick}
use Rattle.octets.specs.Sets.{has}

-- whether board i is in a set: board i is bit i - 1
unfoldable pub member : ℕ → ℕ → Bool
member set zero = false
member set (suc i) = has set i

-- f of the boards of a set, f 0 of board 1; nothing of the others
abbrev pub masked : ℕ → (ℕ → List ℕ) → ℕ → List ℕ
masked set f i = pick (member set i) (f (i - 1)) []
