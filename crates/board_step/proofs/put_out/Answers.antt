use native.Mathlib.Omega.{arith}
use mathlib.Core.Path.{refl, sym}
use Rattle.octets.specs.Bytes.{pick}
use Rattle.record.proofs.Round.{vote_length}
use Rattle.board.specs.Stepped.{record_root}
use Rattle.board_step.specs.Step.{put_out}
use Rattle.board_step.proofs.Records.{root_length, echo_length, put_none}
use Rattle.board_step.proofs.put_out.Goals as goal

pub write_echo-requires : goal.write_echo-requires
unfolding put_out pick
write_echo-requires c =
    let room = rw c.if-echo.true at c.requires.0 in let f = c.requires.1 in (omega (arith, echo_length c.args.r.now c.args.o.nodes c.args.o.len f), (f.nodes, (f.short, f.ends)))

pub returns-then-echo : goal.returns-then-echo
unfolding put_out pick
returns-then-echo c =
    let a = c.args in let p = c.requires in rw c.if-echo.true (sym (echo_length a.r.now a.o.nodes a.o.len p.1), c.write_echo.ensures)

pub write_vote-requires : goal.write_vote-requires
unfolding put_out pick
write_vote-requires c =
    let a = c.args in let f = c.requires.1 in
    let room = rw (c.if-echo.false, c.if-vote.true) at c.requires.0 in
    (omega (arith, vote_length (record_root a.r.now) (root_length a.r.now a.o.nodes a.o.len f)), omega (arith, f.ends))

pub returns-then-vote : goal.returns-then-vote
unfolding put_out pick
returns-then-vote c =
    let a = c.args in let p = c.requires in
    rw (c.if-echo.false, c.if-vote.true) (sym (vote_length (record_root a.r.now) (root_length a.r.now a.o.nodes a.o.len p.1)), c.write_vote.ensures)

pub returns : goal.returns
unfolding put_out pick
returns c = rw (c.if-echo.false, c.if-vote.false) (refl, sym (put_none _))
