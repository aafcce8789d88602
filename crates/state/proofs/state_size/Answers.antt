use native.Mathlib.Omega.{arith}
use Rattle.table.proofs.Within.{within, room_le}
use Rattle.state.specs.State.{state_size}
use Rattle.state.proofs.state_size.Goals as goal

pub overflow_mul-result : goal.overflow_mul-result
overflow_mul-result c =
    let w = within _ c.args.b.within in omega (arith, room_le c.args.b.table.n c.fragment_most.result w.few c.fragment_most.ensures.1)

pub overflow_add-result : goal.overflow_add-result
overflow_add-result c =
    let w = within _ c.args.b.within in omega (arith, room_le c.args.b.table.n c.fragment_most.result w.few c.fragment_most.ensures.1)

pub returns : goal.returns
unfolding state_size
returns c = rw c.fragment_most.ensures.0
