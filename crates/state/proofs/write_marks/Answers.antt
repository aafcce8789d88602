use Rattle.octets.specs.Bytes.{put}
use Rattle.state.specs.State.{marks_bytes}
use Rattle.state.proofs.Flags.{byte_bit}
use Rattle.state.proofs.write_marks.Goals as goal

pub returns : goal.returns
unfolding put marks_bytes
returns c =
    rw (
      c.put_eight-3.ensures,
      c.put_eight-2.ensures,
      c.put_eight.ensures,
      c.from.ensures,
      c.from-2.ensures,
      c.from-3.ensures,
      c.from-4.ensures,
    )
    (simp byte_bit)
