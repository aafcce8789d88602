use mathlib.Core.Path.{◌≡◌}
use native.Mathlib.Omega.{arith}
use Rattle.std.proofs.lemmas.Grind.{common_steps}
use Rattle.octets.specs.Bytes.{pick}
use Rattle.notice_step.specs.Sent.{notice_send_refusal, notice_send_by, notice_send_of}
use Rattle.notice_step.proofs.Writes.{notice_send_made}
use Rattle.notice_step.proofs.send.Goals as goal

pub returns-in_err-b : goal.returns-in_err-b
unfolding notice_send_of notice_send_by notice_send_refusal pick
returns-in_err-b c = grind (arith, common_steps)

pub returns-then-out-lt-OUT_BYTES : goal.returns-then-out-lt-OUT_BYTES
unfolding notice_send_of notice_send_by notice_send_refusal pick
returns-then-out-lt-OUT_BYTES c = grind (arith, common_steps)

pub returns-then-not-is_board : goal.returns-then-not-is_board
unfolding notice_send_of notice_send_by notice_send_refusal pick
returns-then-not-is_board c = grind (arith, common_steps)

pub returns-then-notice-gt-MOST : goal.returns-then-notice-gt-MOST
unfolding notice_send_of notice_send_by notice_send_refusal pick
returns-then-notice-gt-MOST c = grind (arith, common_steps)

pub returns : goal.returns
unfolding notice_send_refusal pick
returns c =
    let a = c.args in
    let none : notice_send_refusal a.b a.notice.now a.to a.out.now ≡ 0 = grind (arith, common_steps) in
    notice_send_made _ _ _ _ _ none c.write_notice.ensures
