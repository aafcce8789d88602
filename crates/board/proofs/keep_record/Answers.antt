use Prim.Native.Nat.{◌+◌, ◌-◌, ◌*◌}
use native.Mathlib.Omega.{arith}
use mathlib.Core.Path.{◌≡◌, refl}
use Rattle.octets.specs.Bytes.{pick, part}
use Rattle.board.specs.Stepped.{kept}
use Rattle.board.proofs.keep_record.Goals as goal

pub returns-in-Send : goal.returns-in-Send
unfolding kept pick
returns-in-Send c = rw c.in-Send.is refl

pub returns-in-Echo : goal.returns-in-Echo
unfolding kept pick part
returns-in-Echo c =
    let a = c.args in let g : 39 + 32 * a.o.nodes + a.o.len - (39 + 32 * a.o.nodes) ≡ a.o.len = omega arith in
    rw (c.in-Echo.is, c.copy_bytes.ensures, c.put_two.ensures, c.copy_at.ensures, g)

pub returns-in-Vote : goal.returns-in-Vote
unfolding kept pick part
returns-in-Vote c = rw (c.in-Vote.is, c.copy_at-in-Vote.ensures)
