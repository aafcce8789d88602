use native.Mathlib.Omega.{arith}
use Rattle.std.proofs.lemmas.Grind.{common_steps}
use Rattle.octets.specs.Bytes.{pick}
use Rattle.notice.specs.Sound.{notice_length_ok, notice_board_ok}
use Rattle.notice_sound.proofs.Seen.board_ok.Goals as goal

pub returns-then-length_ok : goal.returns-then-length_ok
unfolding notice_board_ok notice_length_ok pick
returns-then-length_ok c = grind (arith, common_steps)

pub returns-else-length_ok : goal.returns-else-length_ok
unfolding notice_board_ok notice_length_ok pick
returns-else-length_ok c = grind (arith, common_steps)
