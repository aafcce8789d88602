-- Document 01, "The table of boards": the four numbers that C hands over, as a table.
use Rattle.std.specs.Prelude.{ℕ}
use Rattle.table.specs.declared.Table.{Table}

-- n, t, S and L
abbrev pub table_from : ℕ → ℕ → ℕ → ℕ → Table
table_from n t sender longest = record { n = n; t = t; sender = sender; longest = longest }
