-- What reading and writing a notice record answer and leave, for every input: document 02, request 3; the writer looks at its buffer first.
use Rattle.std.specs.Prelude.{List, ℕ, ltb, length}
use Rattle.octets.specs.Bytes.{pick, put}
use Rattle.record.specs.Form.{Read, Form, Fault, answered}
use Rattle.notice.specs.Form.{notice_out_bytes, notice_form, notice_record}
use Rattle.tumbeliko.specs.Records.{Wrote, wrote}
use Rattle.tumbeliko.specs.declared.Notice.{Notice}

-- the parts of a notice record, by what the reader found: the kind and the notice's bytes; or the fault and the offset of the field at fault
unfoldable pub notice_parts_of : Read → Notice
notice_parts_of (Form k p f) = record { number = 0; offset = 0; kind = k; length = f }
notice_parts_of (Fault why at) = record { number = why; offset = at; kind = 0; length = 0 }

-- by the form that the notice has: refused and nothing written, or the record written
unfoldable pub notice_write_by : Read → List ℕ → List ℕ → Wrote
notice_write_by (Fault why at) v out = wrote (answered why at 0) out
notice_write_by (Form k p f) v out =
    let r = notice_record k v in
    wrote (answered 0 0 (length r)) (put 0 r out)

-- 2, "outgoing buffer 67 bytes", then 21 and 24; the call, whole
unfoldable pub notice_write_of : ℕ → List ℕ → List ℕ → Wrote
notice_write_of kind v out =
    pick (ltb (length out) notice_out_bytes) (wrote (answered 2 0 0) out)
    (notice_write_by (notice_form kind (length v)) v out)
