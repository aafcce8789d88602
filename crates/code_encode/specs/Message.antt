-- Document 01, "Field and fragments": the fragments of a message under a table.
use Rattle.std.specs.Prelude.{List, ℕ, suc}
use Rattle.table.specs.Table.{k_of}
use Rattle.table.specs.declared.Table.{Table}
use Rattle.code.specs.Code.{fragment_of}
use Rattle.code.specs.Block.{block}

-- fragment i + 1 of a message's block
unfoldable pub fragment_for : Table → List ℕ → ℕ → List ℕ
fragment_for b message i = fragment_of (k_of b) (block (k_of b) message) (suc i)
