-- What checking a table gives: the table itself if it is within its limits, else refusal 1.
use Rattle.std.specs.Prelude.{◌≡◌, false, Result, MatchResult}
use Rattle.refusal.specs.declared.Refusal.{Refusal}
use Rattle.table.specs.declared.Table.{Table}
use Rattle.table.specs.declared.InLimits.{InLimits}
use Rattle.table.specs.Table.{limits}

abbrev pub Checks : Table → Result InLimits Refusal → Type 0
Checks b x = MatchResult x (λ c. c.table ≡ b) (λ e. (e ≡ Refusal.Table) × (limits b ≡ false))
