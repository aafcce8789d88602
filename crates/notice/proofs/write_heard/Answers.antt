use Rattle.octets.specs.Bytes.{put}
use Rattle.state.proofs.Flags.{byte_bit}
use Rattle.notice.specs.State.{heard_bytes}
use Rattle.notice.proofs.write_heard.Goals as goal

pub returns : goal.returns
unfolding put heard_bytes
returns c =
    rw (
      c.put_eight-2.ensures,
      c.put_eight.ensures,
      c.from.ensures,
      c.from-2.ensures,
      c.from-3.ensures,
    )
    (simp byte_bit)
