-- What an answer of `drill_open` says of the four lines.
use Rattle.std.specs.Prelude.{ℕ, List, Result, Ok, Err, take}
use Rattle.drill_lines.specs.Read.{numbered}
use Rattle.drill_open.specs.declared.BadLine.{BadLine}
use Rattle.drill_open.specs.declared.Opening.{Opening}
use Rattle.drill_open.specs.Opened.{Begin, wrong, begins}

-- with the message
abbrev pub opened_by : Result Opening BadLine → List ℕ → Begin
opened_by (Err e) message = wrong e.line
opened_by (Ok o) message = begins o.table.limits.table (numbered o.breakers) (take o.size message) o.count o.rest.now
