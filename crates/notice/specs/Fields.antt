-- The fields of a notice record, by their places, as record's.
use Rattle.std.specs.Prelude.{ℕ, ltb}
use Rattle.octets.specs.Bytes.{pick}

-- where the field starts that holds byte c: the kind; the notice's count; the notice
unfoldable pub notice_field_at : ℕ → ℕ
notice_field_at c = pick (ltb c 1) 0 (pick (ltb c 3) 1 3)
