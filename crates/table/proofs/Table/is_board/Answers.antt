use Rattle.octets.proofs.Picks.{picks}
use Rattle.table.specs.Table.{is_board}
use Rattle.table.proofs.Table.is_board.Goals as goal

pub returns-then-i-lt1 : goal.returns-then-i-lt1
unfolding is_board
returns-then-i-lt1 c = search picks

pub returns : goal.returns
unfolding is_board
returns c = search picks
