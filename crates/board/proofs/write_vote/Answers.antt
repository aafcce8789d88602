use Rattle.octets.specs.Bytes.{part}
use Rattle.board.proofs.write_vote.Goals as goal

pub returns : goal.returns
unfolding part
returns c = c.write_parts.ensures
