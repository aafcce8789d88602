use native.Mathlib.Omega.{arith}
use Rattle.std.proofs.lemmas.Grind.{common_steps}
use Rattle.octets.specs.Bytes.{pick}
use Rattle.notice_step.specs.Started.{notice_start_of}
use Rattle.notice_step.proofs.start.Goals as goal

pub returns-in_err-b : goal.returns-in_err-b
unfolding notice_start_of pick
returns-in_err-b c = grind (arith, common_steps)

pub returns-then-not-is_board : goal.returns-then-not-is_board
unfolding notice_start_of pick
returns-then-not-is_board c = grind (arith, common_steps)

pub returns-then-state-lt-STATE_BYTES : goal.returns-then-state-lt-STATE_BYTES
unfolding notice_start_of pick
returns-then-state-lt-STATE_BYTES c = grind (arith, common_steps)

pub returns : goal.returns
unfolding notice_start_of pick
returns c = grind (arith, common_steps)
