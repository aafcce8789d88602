use Rattle.board.proofs.Taken.{taken}
use Rattle.board_step.specs.Asked.{out_room}
use Rattle.octets.specs.Bytes.{pick}
use Rattle.board_step.proofs.Taking.{formed}
use Rattle.board_mailbox.proofs.Handing.{takes_send}
use Rattle.board_mailbox.proofs.take_send.Goals as goal

pub is_good-good-requires : goal.is_good-good-requires
is_good-good-requires c =
    let a = c.args in let p = c.requires.1.0 in
    let t = taken a.s.now a.from a.r.now p.0 p.1.0 1 a.o.nodes a.o.len p.1.1 in
    (t.long, formed a.s.now a.from a.r.now p.0 p.1.0 1 a.o.nodes a.o.len t)

pub take_in-requires : goal.take_in-requires
unfolding out_room pick
take_in-requires c = rw c.requires.0 (c.requires.1.0, c.requires.1.1)

pub returns : goal.returns
returns c =
    let k = c.requires.0 in let is_good = c.is_good-good in let take_in = c.take_in in
    let a = c.args in
    λ d. takes_send a.s.now a.from a.r.now a.echo.now d a.o.nodes a.o.len is_good.result _ _ take_in.result (rw k at is_good.ensures) (rw k at take_in.ensures.0)
    (rw k at take_in.ensures.1) (rw k at take_in.ensures.2)
