use native.Mathlib.Omega.{arith}
use Rattle.std.proofs.lemmas.Grind.{common_steps}
use Rattle.octets.specs.Bytes.{pick}
use Rattle.state.specs.Sound.{board_ok, usable_ok, length_ok}
use Rattle.state_sound.proofs.Seen.board_ok.Goals as goal

pub returns-then-len-ge1 : goal.returns-then-len-ge1
unfolding board_ok usable_ok length_ok pick
returns-then-len-ge1 c = grind (arith, common_steps)

pub returns-else-len-ge1 : goal.returns-else-len-ge1
unfolding board_ok usable_ok length_ok pick
returns-else-len-ge1 c = grind (arith, common_steps)

pub returns-then-not-has_board : goal.returns-then-not-has_board
unfolding board_ok usable_ok length_ok pick
returns-then-not-has_board c = grind (arith, common_steps)

pub returns-else-not-has_board : goal.returns-else-not-has_board
unfolding board_ok usable_ok length_ok pick
returns-else-not-has_board c = grind (arith, common_steps)
