use Rattle.notice.specs.State.{notice_table}
use Rattle.notice.proofs.read_table.Goals as goal

pub returns : goal.returns
unfolding notice_table
returns c = cc
