-- What reading and writing a record answer and leave, for every input: document 02, request 2; the writer looks at its buffer first.
use Rattle.std.specs.Prelude.{List, ℕ, ltb, length}
use Rattle.octets.specs.Bytes.{pick, put}
use Rattle.record.specs.Form.{Read, Form, Fault, out_bytes, record_of, form_of, answered}
use Rattle.record.specs.declared.Written.{Written}
use Rattle.tumbeliko.specs.declared.Parts.{Parts}

-- the parts of a record, by what the reader found: the kind, the path's nodes, the fragment's bytes; or the fault and "the byte offset of the
-- field at fault"
unfoldable pub parts_of : Read → Parts
parts_of (Form k p f) = record { number = 0; offset = 0; kind = k; nodes = p; fragment_length = f }
parts_of (Fault why at) = record { number = why; offset = at; kind = 0; nodes = 0; fragment_length = 0 }

-- what writing a record leaves: its answer, and the outgoing buffer
pub record Wrote : Type 0 where
  pub answer : Written
  pub out : List ℕ

-- the answer and the buffer, as one
abbrev pub wrote : Written → List ℕ → Wrote
wrote x o = record { answer = x; out = o }

-- by the form that the parts have: refused and nothing written, or the record written
unfoldable pub write_by : Read → List ℕ → List ℕ → List ℕ → List ℕ → Wrote
write_by (Fault why at) root path fragment out = wrote (answered why at 0) out
write_by (Form k p f) root path fragment out =
    let r = record_of k root p path fragment in
    wrote (answered 0 0 (length r)) (put 0 r out)

-- "Writer: 2, then 21 to 24": 2, "an outgoing record buffer 16,619"; the call, whole
unfoldable pub write_of : ℕ → List ℕ → List ℕ → List ℕ → List ℕ → Wrote
write_of kind root path fragment out =
    pick (ltb (length out) out_bytes) (wrote (answered 2 0 0) out)
    (write_by (form_of kind (length root) (length path) (length fragment)) root path fragment out)
