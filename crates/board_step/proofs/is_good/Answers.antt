use Prim.Native.Nat.{◌+◌, ◌-◌, ◌*◌}
use native.Mathlib.Omega.{arith}
use mathlib.Core.Path.{◌≡◌}
use Rattle.octets.specs.Bytes.{part}
use Rattle.board_step.specs.Step.{good}
use Rattle.board_step.proofs.is_good.Goals as goal

pub returns-then-is_vote : goal.returns-then-is_vote
unfolding good
returns-then-is_vote c = rw (← c.is_vote.ensures, c.if-is_vote.true)

pub returns : goal.returns
unfolding good part
returns c =
    let a = c.args in let g : 37 + 32 * a.o.nodes - 37 ≡ 32 * a.o.nodes = omega arith in let h : 37 + 32 * a.o.nodes + 2 ≡ 39 + 32 * a.o.nodes = omega arith in let l : 37 + 32 * a.o.nodes + 2 + a.o.len - (37 + 32 * a.o.nodes + 2) ≡ a.o.len = omega arith in
    rw (← c.is_vote.ensures, c.if-is_vote.false, c.correct.ensures, c.read_table-b.ensures, c.place-i.ensures, l, g, h)
