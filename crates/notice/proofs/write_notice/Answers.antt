use Rattle.octets.specs.Bytes.{put}
use Rattle.notice.specs.Form.{notice_record}
use Rattle.notice.proofs.Reading.{notice_number_is}
use Rattle.notice.proofs.write_notice.Goals as goal

pub returns : goal.returns
unfolding put notice_record
returns c = rw (c.copy_bytes.ensures, c.put_two.ensures, c.number.ensures, ← notice_number_is c.args.kind)
