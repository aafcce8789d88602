use Prim.Native.Nat.{◌+◌, ◌-◌, ◌*◌}
use native.Mathlib.Omega.{arith}
use mathlib.Core.Path.{◌≡◌}
use Rattle.octets.specs.Bytes.{part}
use Rattle.board.proofs.write_echo.Goals as goal

pub returns : goal.returns
unfolding part
returns c =
    let a = c.args in let g : 37 + 32 * a.o.nodes - 37 ≡ 32 * a.o.nodes = omega arith in let h : 37 + 32 * a.o.nodes + 2 ≡ 39 + 32 * a.o.nodes = omega arith in let l : 37 + 32 * a.o.nodes + 2 + a.o.len - (37 + 32 * a.o.nodes + 2) ≡ a.o.len = omega arith in
    rw (c.write_parts.ensures, l, g, h)
