use Rattle.octets.proofs.Picks.{picks}
use Rattle.code.specs.Block.{readable}
use Rattle.code.proofs.can_read.Goals as goal

pub returns-then-size-lt4 : goal.returns-then-size-lt4
unfolding readable
returns-then-size-lt4 c = search picks

pub returns-then-size-k-ne0 : goal.returns-then-size-k-ne0
unfolding readable
returns-then-size-k-ne0 c = search picks

pub returns-then-longest-m : goal.returns-then-longest-m
unfolding readable
returns-then-longest-m c = rw (← c.four_at-m.ensures.0) (search picks)

pub returns : goal.returns
unfolding readable
returns c = rw (← c.four_at-m.ensures.0, ← c.row_count.ensures) (search picks)
