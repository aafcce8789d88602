-- What reading a block answers and leaves, for every input: document 01, "Reading a block: 1, 2, 12".
use Rattle.std.specs.Prelude.{not, List, ℕ, zero, suc, ltb, length}
use Rattle.octets.specs.Bytes.{pick, put}
use Rattle.table.specs.Table.{limits, k_of}
use Rattle.table.specs.declared.Table.{Table}
use Rattle.code.specs.Block.{readable, block_message}
use Rattle.refusal.specs.Answers.{sized}
use Rattle.refusal.specs.declared.Sized.{Sized}

-- the first refusal that applies, or 0
unfoldable pub read_refusal : Table → List ℕ → List ℕ → ℕ
read_refusal b given message =
    pick (not (limits b)) 1
    (pick (ltb (length message) b.longest) 2
    (pick (not (readable (k_of b) b.longest given)) 12 0))

-- the answer, and the message's buffer after the call
pub record ReadOut : Type 0 where
  pub answer : Sized
  pub message : List ℕ

-- the answer and the buffer, as one
abbrev pub read_out : Sized → List ℕ → ReadOut
read_out x m = record { answer = x; message = m }

-- refused and nothing written, or the message written
unfoldable pub read_by : ℕ → List ℕ → List ℕ → ReadOut
read_by (suc q) given message = read_out (sized (suc q) 0) message
read_by zero given message = read_out (sized 0 (length (block_message given))) (put 0 (block_message given) message)

-- "Reading a block: 1, 2, 12": the call, whole
unfoldable pub read_of : Table → List ℕ → List ℕ → ReadOut
read_of b given message = read_by (read_refusal b given message) given message
