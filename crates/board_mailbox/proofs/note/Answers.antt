use Rattle.octets.specs.Bytes.{put}
use borrow.Author.Rules.{rules}
use Rattle.board_mailbox.proofs.note.Goals as goal

pub returns : goal.returns
unfolding put
returns c = search rules
