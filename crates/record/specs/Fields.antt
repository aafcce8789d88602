-- The fields of a record, by their places: "a count is a field of two bytes, a section's bytes are a field that starts after its count".
use Rattle.std.specs.Prelude.{ℕ, ◌+◌, ◌*◌, ltb}
use Rattle.octets.specs.Bytes.{pick}

-- where the field starts that holds byte c of a record with p path nodes: the kind; the root's count and the root; the path's count and the
-- path; the fragment's count and the fragment
unfoldable pub field_at : ℕ → ℕ → ℕ
field_at p c =
    pick (ltb c 1) 0
    (pick (ltb c 3) 1
    (pick (ltb c 35) 3
    (pick (ltb c 37) 35
    (pick (ltb c (37 + 32 * p)) 37
    (pick (ltb c (39 + 32 * p)) (37 + 32 * p)
    (39 + 32 * p))))))
