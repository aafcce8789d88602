-- What a party of a figure does, and how a board's step answers that.
use Rattle.std.specs.Prelude.{ℕ, List, [], ◌∷◌, ◌++◌, length}
use Rattle.std.proofs.Math.Option.{Option}
use Rattle.octets.specs.Bytes.{put}
use Rattle.deliver.specs.Delivered.{Left, left_by}
use Rattle.board_step.specs.Step.{Outcome, outcome, stepped}

-- "send .. to P_1, .., P_n"; "output .."
pub data Act (Message Result : Type 0) : Type 0 where
  sends : Message → Act Message Result
  outputs : Result → Act Message Result

-- as_record: the record that a message is; as_delivery: the message that a result delivers, or none for void
module _ {Message Result : Type 0} (as_record : Message → List ℕ) (as_delivery : Result → Option (List ℕ)) where
  -- all that is sent, one record after the other
  abbrev pub sent_by : List (Act Message Result) → List ℕ
  sent_by [] = []
  sent_by (sends m ∷ es) = as_record m ++ sent_by es
  sent_by (outputs x ∷ es) = sent_by es

  -- what is output, into the delivery buffer d
  abbrev pub output_by : List (Act Message Result) → List ℕ → Left
  output_by [] d = record { kind = 0; size = 0; buffer = d }
  output_by (sends m ∷ es) d = output_by es d
  output_by (outputs x ∷ es) d = left_by (as_delivery x) d

  -- the answer of a step that leaves the state s and does what es say: o is the outgoing buffer before
  unfoldable pub answered : List (Act Message Result) → List ℕ → List ℕ → List ℕ → Outcome
  answered es s o d =
      let w = sent_by es in
      let x = output_by es d in
      outcome (stepped (length w) x.kind x.size) s (put 0 w o) x.buffer
