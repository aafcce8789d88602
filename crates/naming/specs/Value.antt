-- The values that are kept of the boards, each at its place: a root, which fills its place, or a notice after its length.
use Rattle.std.specs.Prelude.{ℕ, ◌+◌, ◌*◌, List, Bool, true, false, get_or}
use Rattle.octets.specs.Bytes.{part}
use Rattle.state.specs.declared.Places.{Places}

-- how many bytes a value has of which the first is x: all the room, or, in a sized place, x and as many as x says
abbrev pub span : Bool → ℕ → ℕ → ℕ
span true room x = 1 + x
span false room x = room

-- how many bytes the value has that begins at a
abbrev pub span_at : Places → List ℕ → ℕ → ℕ
span_at p s a = span p.sized p.room (get_or s a 0)

-- this value
abbrev pub value_at : Places → List ℕ → ℕ → List ℕ
value_at p s a = part a (span_at p s a) s

-- the value kept of board i + 1
abbrev pub value_of : Places → List ℕ → ℕ → List ℕ
value_of p s i = value_at p s (p.base + p.room * i)
